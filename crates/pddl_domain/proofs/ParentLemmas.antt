-- Parents in a list where one is set, or one more type stands last.
use Rattle.std.proofs.Common.{◌≡◌, ℕ, suc, zero, ◌==◌, true, false, List, [], ◌∷◌, ◌++◌, Option, None, refl, ap, arith}
use Rattle.std.specs.Prelude.{slice_set}
use Rattle.std.proofs.lemmas.Bool.Decides.{nat_tests}
use Rattle.pddl_domain.specs.Types.{parent_at}

pub is_not : (k j : ℕ) → (k ≡ j → ⊥) → (k == j) ≡ false
is_not k j n = grind (arith, nat_tests)

pub differs : (j i : ℕ) → (j == i) ≡ false → j ≡ i → ⊥
differs j i e q = let t : (j == i) ≡ true = grind (arith, nat_tests) in cc

pub unchanged : (ps : List (Option ℕ)) (i j : ℕ) (v : Option ℕ) → (j ≡ i → ⊥) → parent_at (slice_set ps i v) j ≡ parent_at ps j
unchanged [] i j v n = refl
unchanged (x ∷ ps) zero zero v n = absurd (n refl)
unchanged (x ∷ ps) zero (suc j) v n = refl
unchanged (x ∷ ps) (suc i) zero v n = refl
unchanged (x ∷ ps) (suc i) (suc j) v n = unchanged ps i j v (λ e. n (ap suc e))

pub pushed : (ps : List (Option ℕ)) (j : ℕ) → parent_at (ps ++ None ∷ []) j ≡ parent_at ps j
pushed [] zero = refl
pushed [] (suc j) = refl
pushed (x ∷ ps) zero = refl
pushed (x ∷ ps) (suc j) = pushed ps j
