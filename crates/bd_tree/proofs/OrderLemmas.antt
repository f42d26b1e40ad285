-- Total orders are orders.
use Rattle.std.proofs.Common.{◌≡◌, ℕ, zero, suc, ◌+◌, ◌<◌, ◌≤◌, Bool, true, false, not, ◌&&◌, ◌||◌, ltb, eqb, List, [], ◌∷◌, ◌++◌, refl, ap, subst, ◌∙◌, inl, inr, arith}
use Rattle.std.specs.List.{list_all, list_any}
use Rattle.std.proofs.lemmas.Bool.{and_parts, and_from, or_left, or_right, ltb-true, lt-ltb, eqb-true, eq-eqb, cases_eq, ne_eqb, false_from_ne_true}
use Rattle.std.proofs.lemmas.List.Folds.{list_all-append, list_any-append}
use Rattle.bd_base.specs.Pairs.{is_before, before_each, in_turn, total_order, is_closed}
use Rattle.bd_tree.specs.Order.{is_less, is_rising, is_within, is_order}

module _ {X : Type 0} where
  pub all_weaker : (t u : X → Bool) → ((x : X) → t x ≡ true → u x ≡ true) → (xs : List X) → list_all t xs ≡ true → list_all u xs ≡ true
  all_weaker t u h [] a = refl
  all_weaker t u h (x ∷ xs) a = let p = and_parts (t x) (list_all t xs) a in and_from _ _ (h x p.0) (all_weaker t u h xs p.1)

  pub none_of : (t u : X → Bool) → ((x : X) → t x ≡ true → u x ≡ false) → (xs : List X) → list_all t xs ≡ true → list_any u xs ≡ false
  none_of t u h [] a = refl
  none_of t u h (x ∷ xs) a = let p = and_parts (t x) (list_all t xs) a in rw (h x p.0) (none_of t u h xs p.1)

  all_append : (t : X → Bool) (xs ys : List X) → list_all t xs ≡ true → list_all t ys ≡ true → list_all t (xs ++ ys) ≡ true
  all_append t xs ys a b = list_all-append t xs ys ∙ and_from _ _ a b

row_within : (n i j k : ℕ) → i < j → j + k ≤ n → list_all (is_within n) (before_each i j k) ≡ true
row_within n i j zero lt le = refl
row_within n i j (suc k) lt le = and_from _ _ (and_from _ _ (lt-ltb i j lt) (lt-ltb j n (omega arith))) (row_within n i (j + 1) k (omega arith) (omega arith))

turn_within : (n i k : ℕ) → i + k ≤ n → list_all (is_within n) (in_turn i k) ≡ true
turn_within n i zero le = refl
turn_within n i (suc k) le = all_append (is_within n) (before_each i (i + 1) k) (in_turn (i + 1) k) (row_within n i (i + 1) k (omega arith) (omega arith)) (turn_within n (i + 1) k (omega arith))

abbrev starts_after : ℕ → ℕ × ℕ → Bool
starts_after i p = ltb i p.0

row_starts : (m i j k : ℕ) → m < i → list_all (starts_after m) (before_each i j k) ≡ true
row_starts m i j zero lt = refl
row_starts m i j (suc k) lt = and_from _ _ (lt-ltb m i lt) (row_starts m i (j + 1) k lt)

turn_starts : (m i k : ℕ) → m < i → list_all (starts_after m) (in_turn i k) ≡ true
turn_starts m i zero lt = refl
turn_starts m i (suc k) lt = all_append (starts_after m) (before_each i (i + 1) k) (in_turn (i + 1) k) (row_starts m i (i + 1) k lt) (turn_starts m (i + 1) k (omega arith))

row_above : (i j m k : ℕ) → j < m → list_all (is_less (i, j)) (before_each i m k) ≡ true
row_above i j m zero lt = refl
row_above i j m (suc k) lt = and_from _ _ (or_right _ _ (and_from _ _ (eq-eqb i i refl) (lt-ltb j m lt))) (row_above i j (m + 1) k (omega arith))

row_rising : (i j k : ℕ) (rest : List (ℕ × ℕ)) → list_all (starts_after i) rest ≡ true → is_rising rest ≡ true → is_rising (before_each i j k ++ rest) ≡ true
row_rising i j zero rest s r = r
row_rising i j (suc k) rest s r = and_from _ _
    (all_append (is_less (i, j)) (before_each i (j + 1) k) rest (row_above i j (j + 1) k (omega arith)) (all_weaker (starts_after i) (is_less (i, j)) (λ q e. or_left _ _ e) rest s))
    (row_rising i (j + 1) k rest s r)

turn_rising : (i k : ℕ) → is_rising (in_turn i k) ≡ true
turn_rising i zero = refl
turn_rising i (suc k) = row_rising i (i + 1) k (in_turn (i + 1) k) (turn_starts i (i + 1) k (omega arith)) (turn_rising (i + 1) k)

row_has : (i j k b : ℕ) → j ≤ b → b < j + k → is_before (before_each i j k) i b ≡ true
row_has i j zero b le lt = absurd (omega arith)
row_has i j (suc k) b le lt = elim (cases_eq j b) [
  | inl e ↦ or_left _ _ (and_from _ _ (eq-eqb i i refl) (eq-eqb j b e))
  | inr ne ↦ or_right _ _ (row_has i (j + 1) k b (omega (arith, ne)) (omega arith))
]

pub turn_has : (i k a b : ℕ) → i ≤ a → a < b → b < i + k → is_before (in_turn i k) a b ≡ true
turn_has i zero a b le lt in_range = absurd (omega arith)
turn_has i (suc k) a b le lt in_range = list_any-append (λ (p : ℕ × ℕ). eqb p.0 a && eqb p.1 b) (before_each i (i + 1) k) (in_turn (i + 1) k) ∙ elim (cases_eq i a) [
  | inl e ↦ or_left _ _ (subst (λ z. is_before (before_each i (i + 1) k) z b ≡ true) e (row_has i (i + 1) k b (omega (arith, e)) (omega arith)))
  | inr ne ↦ or_right _ _ (turn_has (i + 1) k a b (omega (arith, ne)) lt (omega arith))
]

-- an order in range that has each pair in range is closed
closed_if_full : (n : ℕ) (order : List (ℕ × ℕ)) → list_all (is_within n) order ≡ true → ((a b : ℕ) → a < b → b < n → is_before order a b ≡ true) → is_closed order ≡ true
closed_if_full n order w full = all_weaker (is_within n) (λ p. list_all (λ q. not (eqb p.1 q.0) || is_before order p.0 q.1) order) (λ p wp.
    all_weaker (is_within n) (λ q. not (eqb p.1 q.0) || is_before order p.0 q.1) (λ q wq. joins p q wp wq) order w) order w
  where
    joins : (p q : ℕ × ℕ) → is_within n p ≡ true → is_within n q ≡ true → (not (eqb p.1 q.0) || is_before order p.0 q.1) ≡ true
    joins p q wp wq = elim (cases_eq p.1 q.0) [
      | inl e ↦
          let a = and_parts _ _ wp in
          let b = and_parts _ _ wq in
          let p_up : p.0 < p.1 = ltb-true _ _ a.0 in
          let q_up : q.0 < q.1 = ltb-true _ _ b.0 in
          let below : q.1 < n = ltb-true _ _ b.1 in
          or_right _ _ (full p.0 q.1 (omega (arith, e)) below)
      | inr ne ↦ or_left _ _ (ap not (ne_eqb p.1 q.0 ne))
    ]

pub total_is_order : (n : ℕ) → is_order n (total_order n) ≡ true
total_is_order n =
    let w = turn_within n 0 n (omega arith) in
    and_from _ _ (and_from _ _ w (turn_rising 0 n)) (closed_if_full n (total_order n) w (λ a b lt below. turn_has 0 n a b (omega arith) lt (omega arith)))

-- in an order, no position is before an earlier one
pub not_before : (n : ℕ) (order : List (ℕ × ℕ)) (i j : ℕ) → is_order n order ≡ true → j ≤ i → is_before order i j ≡ false
not_before n order i j o le = none_of (is_within n) (λ p. eqb p.0 i && eqb p.1 j) (λ p w.
    false_from_ne_true _ (λ e.
    let same = and_parts (eqb p.0 i) (eqb p.1 j) e in
    let up : p.0 < p.1 = ltb-true _ _ (and_parts _ _ w).0 in
    let i_is : p.0 ≡ i = eqb-true _ _ same.0 in
    let j_is : p.1 ≡ j = eqb-true _ _ same.1 in
    omega arith)) order (and_parts _ _ (and_parts _ _ o).0).0
