-- What stands at a place of a list, and tests of some element and of all.
use Rattle.std.proofs.Common.{◌≡◌, ℕ, zero, suc, ◌+◌, ◌<◌, Bool, true, false, List, [], ◌∷◌, length, Option, Some, None, slice_get, refl, sym, ap, ◌∙◌, inl, inr, arith}
use Rattle.std.specs.List.{list_any, list_all, enumerate_from}
use Rattle.std.specs.Option.{option_map_or}
use Rattle.std.proofs.lemmas.Bool.{and_parts, and_from, or_left, or_right, or_cases, eq-eqb}
use Rattle.bd_base.specs.Pairs.{is_before}
use Rattle.bd_tree.proofs.OrderLemmas.{all_weaker}

module _ {X : Type 0} where
  -- the element at a place below the length
  pub at_place : (xs : List X) (i : ℕ) → i < length xs → (x : X) × (slice_get xs i ≡ Some x)
  at_place [] i lt = absurd (omega arith)
  at_place (x ∷ xs) zero lt = (x, refl)
  at_place (x ∷ xs) (suc i) lt = at_place xs i (omega arith)

  pub any_numbered : (t : ℕ × X → Bool) (xs : List X) (m i : ℕ) (x : X) → slice_get xs i ≡ Some x → t (m + i, x) ≡ true → list_any t (enumerate_from m xs) ≡ true
  any_numbered t [] m i x at e = absurd (cc)
  any_numbered t (y ∷ ys) m zero x at e =
      let same : y ≡ x = cc in
      let zero_is : m + 0 ≡ m = omega arith in
      or_left _ _ (ap (λ (z : X). t (m, z)) same ∙ ap (λ z. t (z, x)) (sym zero_is) ∙ e)
  any_numbered t (y ∷ ys) m (suc i) x at e =
      let more : m + suc i ≡ m + 1 + i = omega arith in
      or_right _ _ (any_numbered t ys (m + 1) i x at (ap (λ z. t (z, x)) (sym more) ∙ e))

  -- some element passes where the one at the place does
  pub any_at : (t : ℕ × X → Bool) (xs : List X) (i : ℕ) (x : X) → slice_get xs i ≡ Some x → t (i, x) ≡ true → list_any t (enumerate_from 0 xs) ≡ true
  any_at t xs i x at e = let zero_is : 0 + i ≡ i = omega arith in any_numbered t xs 0 i x at (ap (λ z. t (z, x)) zero_is ∙ e)

  pub all_at : (t : X → Bool) (xs : List X) (i : ℕ) (x : X) → list_all t xs ≡ true → slice_get xs i ≡ Some x → t x ≡ true
  all_at t [] i x a at = absurd (cc)
  all_at t (y ∷ ys) zero x a at = let same : y ≡ x = cc in ap t (sym same) ∙ (and_parts _ _ a).0
  all_at t (y ∷ ys) (suc i) x a at = all_at t ys i x (and_parts _ _ a).1 at

  pub any_weaker : (t u : X → Bool) → ((x : X) → t x ≡ true → u x ≡ true) → (xs : List X) → list_any t xs ≡ true → list_any u xs ≡ true
  any_weaker t u h [] a = absurd (cc)
  any_weaker t u h (x ∷ xs) a = elim (or_cases (t x) (list_any t xs) a) [
    | inl here ↦ or_left _ _ (h x here)
    | inr later ↦ or_right _ _ (any_weaker t u h xs later)
  ]

  pub some_passes : (t : X → Bool) (o : Option X) → option_map_or t o false ≡ true → (x : X) × (o ≡ Some x) × (t x ≡ true)
  some_passes t None e = absurd (cc)
  some_passes t (Some x) e = (x, refl, e)

-- each pair of an order is in it
pub each_is_before : (ps : List (ℕ × ℕ)) → list_all (λ p. is_before ps p.0 p.1) ps ≡ true
each_is_before [] = refl
each_is_before (p ∷ ps) = and_from _ _
    (or_left _ _ (and_from _ _ (eq-eqb p.0 p.0 refl) (eq-eqb p.1 p.1 refl)))
    (all_weaker (λ q. is_before ps q.0 q.1) (λ q. is_before (p ∷ ps) q.0 q.1) (λ q e. or_right _ _ e) ps (each_is_before ps))
