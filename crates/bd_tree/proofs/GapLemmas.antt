-- How a walk through the rows of a rising list of pairs finds the least pair that closure needs and the list lacks.
use Rattle.std.proofs.Common.{◌≡◌, ℕ, zero, suc, ◌+◌, ◌-◌, ◌<◌, ◌≤◌, Bool, true, false, not, ◌&&◌, ◌||◌, ltb, eqb, List, [], ◌∷◌, ◌++◌, length, take, drop, get_or, Option, Some, None, refl, sym, ap, ◌∙◌, inl, inr, arith}
use Rattle.std.specs.List.{list_all, list_any, find}
use Rattle.std.specs.Option.{option_or}
use Rattle.std.proofs.lemmas.Bool.{both_ways, cases_eq, and_parts, and_from, and_left, and_right, ltb-true, ltb-false, lt-ltb, le-ltb, eqb-true, ne_eqb, cond-true, cond-false, not-true, not_from_false}
use Rattle.std.proofs.lemmas.List.{take-append-drop}
use Rattle.std.proofs.lemmas.List.Folds.{list_any-append, find-append}
use Rattle.bd_base.specs.Facts.{has, is_subset}
use Rattle.bd_base.specs.Pairs.{after_of, is_before, before_each, in_turn}
use Rattle.bd_base.proofs.RowLemmas.{before_by_row}
use Rattle.bd_tree.specs.Misfit.{leads_to, is_gap}
use Rattle.bd_tree.specs.Order.{is_less, is_rising}
use Rattle.bd_tree.proofs.MisfitLemmas.{less_parts, IsLess}
use Rattle.bd_tree.proofs.OrderLemmas.{all_weaker, none_of}

first_below : (p q : ℕ × ℕ) → IsLess p q → p.0 ≤ q.0
first_below p q (inl up) = omega arith
first_below p q (inr same) = omega (arith, same.0)

-- where a list rises and no pair begins below i, all pairs from the first on that doesn't begin with i begin above
pub behind_row : (ps : List (ℕ × ℕ)) (i k : ℕ) (d : ℕ × ℕ) → k < length ps → ((get_or ps k d).0 ≡ i → ⊥) → is_rising ps ≡ true → list_all (λ p. not (ltb p.0 i)) ps ≡ true → list_all (λ p. ltb i p.0) (drop k ps) ≡ true
behind_row [] i k d lt off r b = absurd (omega arith)
behind_row (p ∷ ps) i zero d lt off r b =
    let starts = and_parts (not (ltb p.0 i)) (list_all (λ q. not (ltb q.0 i)) ps) b in
    let rises = and_parts (list_all (is_less p) ps) (is_rising ps) r in
    let least : i ≤ p.0 = ltb-false _ _ (not-true _ starts.0) in
    let up : i < p.0 = omega (arith, off) in
    and_from _ _ (lt-ltb i p.0 up) (all_weaker (is_less p) (λ q. ltb i q.0) (λ q l. lt-ltb i q.0 (omega (arith, first_below p q (less_parts p q l)))) ps rises.0)
behind_row (p ∷ ps) i (suc k) d lt off r b =
    let starts = and_parts (not (ltb p.0 i)) (list_all (λ q. not (ltb q.0 i)) ps) b in
    let rises = and_parts (list_all (is_less p) ps) (is_rising ps) r in
    behind_row ps i k d (omega arith) off rises.1 starts.1

pub parts_of : (ps front back : List (ℕ × ℕ)) (k : ℕ) → front ≡ take k ps → back ≡ drop k ps → front ++ back ≡ ps
parts_of ps front back k f b = ap (λ z. z ++ back) f ∙ ap (λ z. take k ps ++ z) b ∙ take-append-drop k ps

rising_drop : (xs ys : List (ℕ × ℕ)) → is_rising (xs ++ ys) ≡ true → is_rising ys ≡ true
rising_drop [] ys r = r
rising_drop (x ∷ xs) ys r = rising_drop xs ys (and_parts (list_all (is_less x) (xs ++ ys)) (is_rising (xs ++ ys)) r).1

module _ (f : ℕ × ℕ → Bool) where
  -- of pairs that all begin with i
  own_row : (i : ℕ) (row : List (ℕ × ℕ)) → list_all (λ p. eqb p.0 i) row ≡ true → list_any (λ p. eqb p.0 i && f p) row ≡ list_any f row
  own_row i [] a = refl
  own_row i (p ∷ ps) a =
      let parts = and_parts (eqb p.0 i) (list_all (λ q. eqb q.0 i) ps) a in
      ap (λ z. (z && f p) || list_any (λ q. eqb q.0 i && f q) ps) parts.0 ∙ ap (λ z. f p || z) (own_row i ps parts.1)

  -- of pairs that all begin above i
  other_rows : (i : ℕ) (behind : List (ℕ × ℕ)) → list_all (λ p. ltb i p.0) behind ≡ true → list_any (λ p. eqb p.0 i && f p) behind ≡ false
  other_rows i behind a = none_of (λ p. ltb i p.0) (λ p. eqb p.0 i && f p) (λ p up. let lt : i < p.0 = ltb-true _ _ up in and_left _ (f p) (ne_eqb p.0 i (λ e. omega (arith, e, lt)))) behind a

  -- of pairs that all begin with another
  off_row : (i m : ℕ) (row : List (ℕ × ℕ)) → i < m → list_all (λ p. eqb p.0 i) row ≡ true → list_any (λ p. eqb p.0 m && f p) row ≡ false
  off_row i m row lt a = none_of (λ p. eqb p.0 i) (λ p. eqb p.0 m && f p) (λ p same. and_left _ (f p) (ne_eqb p.0 m (λ e. omega (arith, e, eqb-true _ _ same)))) row a

  pub row_only : (i : ℕ) (row behind : List (ℕ × ℕ)) → list_all (λ p. eqb p.0 i) row ≡ true → list_all (λ p. ltb i p.0) behind ≡ true → list_any (λ p. eqb p.0 i && f p) (row ++ behind) ≡ list_any f row
  row_only i row behind a b =
      list_any-append (λ p. eqb p.0 i && f p) row behind
      ∙ ap (λ z. z || list_any (λ p. eqb p.0 i && f p) behind) (own_row i row a)
      ∙ ap (λ z. list_any f row || z) (other_rows i behind b)
      ∙ or_false (list_any f row)
    where
      or_false : (b : Bool) → (b || false) ≡ b
      or_false true = refl
      or_false false = refl

  pub behind_only : (i m : ℕ) (row behind : List (ℕ × ℕ)) → i < m → list_all (λ p. eqb p.0 i) row ≡ true → list_any (λ p. eqb p.0 m && f p) (row ++ behind) ≡ list_any (λ p. eqb p.0 m && f p) behind
  behind_only i m row behind lt a =
      list_any-append (λ p. eqb p.0 m && f p) row behind
      ∙ ap (λ z. z || list_any (λ p. eqb p.0 m && f p) behind) (off_row i m row lt a)

has_from : (xs s : List ℕ) (j : ℕ) → is_subset xs s ≡ true → has xs j ≡ true → has s j ≡ true
has_from [] s j sub e = absurd (cc)
has_from (x ∷ xs) s j sub e = elim (cases_eq x j) [
  | inl same ↦ ap (has s) (sym same) ∙ (and_parts (has s x) (is_subset xs s) sub).0
  | inr other ↦ has_from xs s j (and_parts (has s x) (is_subset xs s) sub).1 (ap (λ z. z || has xs j) (sym (ne_eqb x j other)) ∙ e)
]

-- whether i is before all that a second position of a pair is before
abbrev IsFull : List (ℕ × ℕ) → ℕ → ℕ × ℕ → Bool
IsFull order i p = is_subset (after_of order p.1) (after_of order i)

module _ (order : List (ℕ × ℕ)) (i : ℕ) where
  gap_by : (j : ℕ) (before leads : Bool) → is_before order i j ≡ before → (before ≡ false → leads_to order (i, j) ≡ false) → is_gap order (i, j) ≡ false
  gap_by j true leads e h = ap (λ z. not z && leads_to order (i, j)) e
  gap_by j false leads e h = and_right (not (is_before order i j)) (leads_to order (i, j)) (h refl)

  no_gap : (row : List (ℕ × ℕ)) (j : ℕ) → leads_to order (i, j) ≡ list_any (λ p. is_before order p.1 j) row → list_all (IsFull order i) row ≡ true → is_gap order (i, j) ≡ false
  no_gap row j h full = gap_by j (is_before order i j) true refl (λ off. h ∙ none_of (IsFull order i) (λ p. is_before order p.1 j) (λ p sub. by_row p (is_before order p.1 j) refl sub off) row full)
    where
      by_row : (p : ℕ × ℕ) (b : Bool) → is_before order p.1 j ≡ b → IsFull order i p ≡ true → is_before order i j ≡ false → is_before order p.1 j ≡ false
      by_row p false e sub off = e
      by_row p true e sub off = absurd (both_ways _ off (before_by_row order i j ∙ has_from (after_of order p.1) (after_of order i) j sub (sym (before_by_row order p.1 j) ∙ e)))

  -- a row that is full needs no further pair
  pub no_gap_in_row : (row : List (ℕ × ℕ)) → ((j : ℕ) → leads_to order (i, j) ≡ list_any (λ p. is_before order p.1 j) row) → list_all (IsFull order i) row ≡ true → (j k : ℕ) → find (is_gap order) (before_each i j k) ≡ None
  no_gap_in_row row h full j zero = refl
  no_gap_in_row row h full j (suc k) = cond-false _ _ _ (no_gap row j (h j) full) ∙ no_gap_in_row row h full (j + 1) k

  pub gap_here : (j n : ℕ) → j < n → is_gap order (i, j) ≡ true → find (is_gap order) (before_each i j (n - j)) ≡ Some (i, j)
  gap_here j n lt gap =
      let e : n - j ≡ suc (n - (j + 1)) = omega arith in
      ap (λ z. find (is_gap order) (before_each i j z)) e ∙ cond-true _ _ _ gap

  pub gap_later : (j n : ℕ) → j < n → is_gap order (i, j) ≡ false → find (is_gap order) (before_each i j (n - j)) ≡ find (is_gap order) (before_each i (j + 1) (n - (j + 1)))
  gap_later j n lt gap =
      let e : n - j ≡ suc (n - (j + 1)) = omega arith in
      ap (λ z. find (is_gap order) (before_each i j z)) e ∙ cond-false _ _ _ gap

or_some : (o p : Option (ℕ × ℕ)) (x : ℕ × ℕ) → o ≡ Some x → option_or o p ≡ Some x
or_some None p x e = absurd (cc)
or_some (Some y) p x e = e

or_none : (o p : Option (ℕ × ℕ)) → o ≡ None → option_or o p ≡ p
or_none None p e = refl
or_none (Some y) p e = absurd (cc)

module _ (order : List (ℕ × ℕ)) (i n : ℕ) (lt : i < n) where
  rows_split : find (is_gap order) (in_turn i (n - i)) ≡ option_or (find (is_gap order) (before_each i (i + 1) (n - (i + 1)))) (find (is_gap order) (in_turn (i + 1) (n - (i + 1))))
  rows_split =
      let e : n - i ≡ suc (n - (i + 1)) = omega arith in
      ap (λ z. find (is_gap order) (in_turn i z)) e ∙ find-append (is_gap order) (before_each i (i + 1) (n - (i + 1))) (in_turn (i + 1) (n - (i + 1)))

  pub row_has_gap : (p : ℕ × ℕ) → Some p ≡ find (is_gap order) (before_each i (i + 1) (n - (i + 1))) → find (is_gap order) (in_turn i (n - i)) ≡ Some p
  row_has_gap p e = rows_split ∙ or_some _ _ p (sym e)

  pub row_has_none : None ≡ find (is_gap order) (before_each i (i + 1) (n - (i + 1))) → find (is_gap order) (in_turn i (n - i)) ≡ find (is_gap order) (in_turn (i + 1) (n - (i + 1)))
  row_has_none e = rows_split ∙ or_none _ _ (sym e)

-- what a walk through rows keeps: the pairs that are left rise, begin with i or more, and have the rows from i on
pub record RowsLeft (order : List (ℕ × ℕ)) (i : ℕ) (rest : List (ℕ × ℕ)) : Type 0 where
  pub rising : is_rising rest ≡ true
  pub begins : list_all (λ p. not (ltb p.0 i)) rest ≡ true
  pub rows : (m j : ℕ) → i ≤ m → leads_to order (m, j) ≡ list_any (λ p. eqb p.0 m && is_before order p.1 j) rest

pub rows_begin : (order rest : List (ℕ × ℕ)) → rest ≡ order → is_rising order ≡ true → RowsLeft order 0 rest
rows_begin order rest is r = record {
  rising = ap is_rising is ∙ r;
  begins = none_below rest;
  rows = λ m j le. ap (λ z. list_any (λ p. eqb p.0 m && is_before order p.1 j) z) (sym is);
}
  where
    none_below : (ps : List (ℕ × ℕ)) → list_all (λ p. not (ltb p.0 0)) ps ≡ true
    none_below [] = refl
    none_below (p ∷ ps) = and_from _ _ (not_from_false _ (le-ltb p.0 0 (omega arith))) (none_below ps)

module _ (order : List (ℕ × ℕ)) (i : ℕ) (rest row behind : List (ℕ × ℕ)) (left : RowsLeft order i rest) (split : row ++ behind ≡ rest) (own : list_all (λ p. eqb p.0 i) row ≡ true) (above : list_all (λ p. ltb i p.0) behind ≡ true) where
  pub row_of_rest : (j : ℕ) → leads_to order (i, j) ≡ list_any (λ p. is_before order p.1 j) row
  row_of_rest j =
      left.rows i j (omega arith)
      ∙ ap (λ z. list_any (λ p. eqb p.0 i && is_before order p.1 j) z) (sym split)
      ∙ row_only (λ p. is_before order p.1 j) i row behind own above

  pub rows_next : RowsLeft order (i + 1) behind
  rows_next = record {
    rising = rising_drop row behind (ap is_rising split ∙ left.rising);
    begins = all_weaker (λ p. ltb i p.0) (λ p. not (ltb p.0 (i + 1))) (λ p up. let lt : i < p.0 = ltb-true _ _ up in not_from_false _ (le-ltb p.0 (i + 1) (omega arith))) behind above;
    rows = λ m j le.
        left.rows m j (omega arith)
        ∙ ap (λ z. list_any (λ p. eqb p.0 m && is_before order p.1 j) z) (sym split)
        ∙ behind_only (λ p. is_before order p.1 j) i m row behind (omega arith) own;
  }
