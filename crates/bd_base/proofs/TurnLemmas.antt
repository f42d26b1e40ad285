-- A walk through the pairs of a total order, row by row.
use Rattle.std.proofs.Common.{◌≡◌, ◌↔◌, ℕ, zero, suc, ◌+◌, ◌-◌, ◌<◌, ◌≤◌, List, [], ◌∷◌, ◌++◌, refl, sym, ap, ◌∙◌, Bool, true, false, leb, inl, inr, arith}
use Rattle.std.proofs.lemmas.Bool.{both_ways, leb-true, le-leb, cases_lt}
use Rattle.bd_base.specs.Pairs.{before_each, in_turn, total_order}

-- the pairs of n positions from (i, j) on
abbrev pub left : ℕ → ℕ → ℕ → List (ℕ × ℕ)
left i j n = before_each i j (n - j) ++ in_turn (i + 1) (n - (i + 1))

one_more : (n i : ℕ) → i < n → n - i ≡ suc (n - (i + 1))
one_more n i lt = omega arith

none_left : (n i : ℕ) → n ≤ i → n - i ≡ 0
none_left n i le = omega arith

pub left_all : (n : ℕ) → left 0 1 n ≡ total_order n
left_all zero = refl
left_all (suc n) =
    let e : suc n - 1 ≡ n = omega arith in
    ap (λ k. before_each 0 1 k ++ in_turn 1 k) e

pub left_none : (i j n : ℕ) → n ≤ j → n ≤ i + 1 → left i j n ≡ []
left_none i j n le row = ap (λ k. before_each i j k ++ in_turn (i + 1) (n - (i + 1))) (none_left n j le) ∙ ap (λ k. in_turn (i + 1) k) (none_left n (i + 1) row)

pub left_next : (i j n : ℕ) → j < n → left i j n ≡ (i, j) ∷ left i (j + 1) n
left_next i j n lt = ap (λ k. before_each i j k ++ in_turn (i + 1) (n - (i + 1))) (one_more n j lt)

pub left_row : (i j n : ℕ) → i < j → j + 1 ≡ n → left i (j + 1) n ≡ left (i + 1) (i + 1 + 1) n
left_row i j n lt e =
    let far : i + 1 < n = omega arith in
    ap (λ k. before_each i (j + 1) k ++ in_turn (i + 1) (n - (i + 1))) (none_left n (j + 1) (omega arith)) ∙ ap (λ k. in_turn (i + 1) k) (one_more n (i + 1) far)

-- one pair of the walk
abbrev head : List (ℕ × ℕ) → ℕ × ℕ
head [] = (0, 0)
head (p ∷ ps) = p

abbrev tail : List (ℕ × ℕ) → List (ℕ × ℕ)
tail [] = []
tail (p ∷ ps) = ps

abbrev is_cons : List (ℕ × ℕ) → Bool
is_cons [] = false
is_cons (p ∷ ps) = true

cons_not_none : (p : ℕ × ℕ) (ps : List (ℕ × ℕ)) → p ∷ ps ≡ [] → ⊥
cons_not_none p ps e = both_ways (is_cons (p ∷ ps)) (ap is_cons e) refl

module _ (order at next : List (ℕ × ℕ)) (p : ℕ × ℕ) (i j n : ℕ) (split : at ≡ p ∷ next) (to : order ≡ total_order n → at ≡ left i j n) where
  pub no_more : n ≤ j → n ≤ i + 1 → order ≡ total_order n → ⊥
  no_more le row e = cons_not_none p next (sym split ∙ to e ∙ left_none i j n le row)

  same : j < n → order ≡ total_order n → p ∷ next ≡ (i, j) ∷ left i (j + 1) n
  same lt e = sym split ∙ to e ∙ left_next i j n lt

  pub first_is : j < n → order ≡ total_order n → p.0 ≡ i
  first_is lt e = ap (λ xs. (head xs).0) (same lt e)

  pub second_is : j < n → order ≡ total_order n → p.1 ≡ j
  second_is lt e = ap (λ xs. (head xs).1) (same lt e)

  pub next_to : j < n → order ≡ total_order n → next ≡ left i (j + 1) n
  next_to lt e = ap tail (same lt e)

  pub next_back : j < n → p.0 ≡ i → p.1 ≡ j → (at ≡ left i j n → order ≡ total_order n) → next ≡ left i (j + 1) n → order ≡ total_order n
  next_back lt a b back e = back (split ∙ ap (λ z. (z, p.1) ∷ next) a ∙ ap (λ z. (i, z) ∷ next) b ∙ ap (λ z. (i, j) ∷ z) e ∙ sym (left_next i j n lt))

pub walk_ends : (order at : List (ℕ × ℕ)) (i j n : ℕ) → at ≡ [] → (n ≤ j → n ≤ i + 1) → (order ≡ total_order n → at ≡ left i j n) → (at ≡ left i j n → order ≡ total_order n) → (leb n j ≡ true) ↔ order ≡ total_order n
walk_ends order at i j n done row to back = (
  λ e. back (done ∙ sym (left_none i j n (leb-true n j e) (row (leb-true n j e)))),
  λ e. elim (cases_lt j n) [
    | inl less ↦ absurd (cons_not_none _ _ (sym (left_next i j n less) ∙ sym (to e) ∙ done))
    | inr more ↦ le-leb n j more
  ],
)
