-- Pairs that pass a test, row by row.
use Rattle.std.proofs.Common.{◌≡◌, ℕ, zero, suc, ◌+◌, ◌-◌, ◌<◌, ◌≤◌, Bool, true, false, ◌&&◌, ltb, cond, List, ◌∷◌, ◌++◌, length, map, filter, Option, Some, None, slice_get, refl, sym, ap, ◌∙◌, inl, inr, append_assoc, arith}
use Rattle.std.proofs.lemmas.Bool.{cases_lt, lt-ltb, le-ltb}
use Rattle.std.proofs.lemmas.List.Elements.{filter-append}
use Rattle.std.proofs.lemmas.Option.{slice_get_past}
use Rattle.bd_base.specs.Bits.{upto}
use Rattle.bd_base.specs.Facts.{IsBelowAll, IsRising, has}
use Rattle.bd_base.specs.Pairs.{before_each, in_turn}
use Rattle.bd_base.proofs.MeetLemmas.{filter_by}
use Rattle.bd_base.proofs.RunLemmas.{has_upto_below, has_upto_in}
use Rattle.bd_merge.specs.Merged.{are_ordered, is_kept}
use Rattle.bd_merge.specs.declared.merging.Place.{Place}

and_false : (b : Bool) → (b && false) ≡ false
and_false true = refl
and_false false = refl

and_true : (b : Bool) → b ≡ (b && true)
and_true true = refl
and_true false = refl

below_upto : (x a k : ℕ) → x < a → IsBelowAll x (upto a k)
below_upto x a zero lt = tt
below_upto x a (suc k) lt = (lt, below_upto x (a + 1) k (omega arith))

rising_upto : (a k : ℕ) → IsRising (upto a k)
rising_upto a zero = tt
rising_upto a (suc k) = (below_upto a (a + 1) k (omega arith), rising_upto (a + 1) k)

module _ (order : List (ℕ × ℕ)) (places : List Place) where
  abbrev passes : ℕ × ℕ → Bool
  passes p = is_kept order places p

  row_filter : (a j k : ℕ) → filter passes (before_each a j k) ≡ map (λ b. (a, b)) (filter (λ b. passes (a, b)) (upto j k))
  row_filter a j zero = refl
  row_filter a j (suc k) = one (passes (a, j)) (row_filter a (j + 1) k)
    where
      one : (c : Bool) → filter passes (before_each a (j + 1) k) ≡ map (λ b. (a, b)) (filter (λ b. passes (a, b)) (upto (j + 1) k)) → cond c ((a, j) ∷ filter passes (before_each a (j + 1) k)) (filter passes (before_each a (j + 1) k)) ≡ map (λ b. (a, b)) (cond c (j ∷ filter (λ b. passes (a, b)) (upto (j + 1) k)) (filter (λ b. passes (a, b)) (upto (j + 1) k)))
      one true more = ap (λ (z : List (ℕ × ℕ)). (a, j) ∷ z) more
      one false more = more

  none_past : (a q : ℕ) → length places ≤ q → passes (a, q) ≡ false
  none_past a q past = ap (are_ordered order (slice_get places a)) (slice_get_past places q past) ∙ nothing (slice_get places a)
    where
      nothing : (o : Option Place) → are_ordered order o None ≡ false
      nothing None = refl
      nothing (Some x) = refl

  module _ (a : ℕ) (lt : a < length places) (row : List ℕ) (rising : IsRising row) (holds : (q : ℕ) → has row q ≡ (ltb a q && passes (a, q))) where
    abbrev behind : List ℕ
    behind = upto (a + 1) (length places - (a + 1))

    in_all : (q : ℕ) → has row q ≡ (passes (a, q) && has behind q)
    in_all q = holds q ∙ elim (cases_lt a q) [
      | inl up ↦ elim (cases_lt q (length places)) [
        | inl below ↦ ap (λ z. z && passes (a, q)) (lt-ltb a q up) ∙ and_true (passes (a, q)) ∙ ap (λ z. passes (a, q) && z) (sym (has_upto_in (a + 1) (length places - (a + 1)) q (omega (arith, up)) (omega (arith, below))))
        | inr past ↦ ap (λ z. ltb a q && z) (none_past a q past) ∙ and_false (ltb a q) ∙ sym (ap (λ z. z && has behind q) (none_past a q past))
      ]
      | inr le ↦ ap (λ z. z && passes (a, q)) (le-ltb a q le) ∙ sym (ap (λ z. passes (a, q) && z) (has_upto_below (a + 1) (length places - (a + 1)) q (omega (arith, le))) ∙ and_false (passes (a, q)))
    ]

    row_is : map (λ b. (a, b)) row ≡ filter passes (before_each a (a + 1) (length places - (a + 1)))
    row_is =
        ap (map (λ b. (a, b))) (filter_by behind row (λ b. passes (a, b)) (rising_upto (a + 1) (length places - (a + 1))) rising in_all)
        ∙ sym (row_filter a (a + 1) (length places - (a + 1)))

    -- one row more of an order
    pub one_row : (pairs new all : List (ℕ × ℕ)) → pairs ++ filter passes (in_turn a (length places - a)) ≡ all → new ≡ pairs ++ map (λ b. (a, b)) row → new ++ filter passes (in_turn (a + 1) (length places - (a + 1))) ≡ all
    one_row pairs new all so_far e =
        let rest = in_turn (a + 1) (length places - (a + 1)) in
        let here = before_each a (a + 1) (length places - (a + 1)) in
        let next : length places - a ≡ suc (length places - (a + 1)) = omega (arith, lt) in
        ap (λ (z : List (ℕ × ℕ)). z ++ filter passes rest) (e ∙ ap (λ (z : List (ℕ × ℕ)). pairs ++ z) row_is)
        ∙ append_assoc pairs (filter passes here) (filter passes rest)
        ∙ ap (λ (z : List (ℕ × ℕ)). pairs ++ z) (sym (filter-append passes here rest))
        ∙ ap (λ z. pairs ++ filter passes (in_turn a z)) (sym next)
        ∙ so_far
