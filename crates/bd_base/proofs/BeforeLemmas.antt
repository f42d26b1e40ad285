-- The positions before one.
use Rattle.std.proofs.Common.{◌≡◌, ℕ, ◌+◌, ◌-◌, ◌<◌, ◌≤◌, Bool, true, false, ◌&&◌, ◌||◌, eqb, List, [], ◌∷◌, length, refl, sym, ap, ◌∙◌, inl, inr, arith}
use Rattle.std.proofs.lemmas.Bool.{cases_eq, cases_lt, eq-eqb, ne_eqb}
use Rattle.bd_base.specs.Facts.{IsRising, has, insert_fact, plus}
use Rattle.bd_base.specs.Pairs.{after_of, before_of, is_before}
use Rattle.bd_base.specs.Rows.{pairs_of}
use Rattle.bd_base.specs.declared.spans.Span.{Span}
use Rattle.bd_base.proofs.FactLemmas.{has-insert_fact}
use Rattle.bd_base.proofs.RowLemmas.{before_by_row, after-past}
use Rattle.bd_base.proofs.SetLemmas.{plus_by}

pub has_before : (order : List (ℕ × ℕ)) (j k : ℕ) → has (before_of order j) k ≡ is_before order k j
has_before [] j k = refl
has_before (p ∷ ps) j k = elim (cases_eq p.1 j) [
  | inl e ↦ rw (eq-eqb p.1 j e) (rw (has_before ps j k) (ap (λ z. z || is_before ps k j) (whole (eqb p.0 k))))
  | inr ne ↦ rw (ne_eqb p.1 j ne) (has_before ps j k ∙ ap (λ z. z || is_before ps k j) (none (eqb p.0 k)))
]
  where
    whole : (a : Bool) → a ≡ (a && true)
    whole true = refl
    whole false = refl

    none : (a : Bool) → false ≡ (a && false)
    none true = refl
    none false = refl

module _ (order : List (ℕ × ℕ)) (row : List ℕ) (i j : ℕ) (done : (k : ℕ) → k < i → has row k ≡ is_before order k j) (left : (k : ℕ) → i ≤ k → has row k ≡ false) where
  pub before_in : is_before order i j ≡ true → (k : ℕ) → k < i + 1 → has (insert_fact i row) k ≡ is_before order k j
  before_in here k lt = has-insert_fact i row k ∙ elim (cases_eq i k) [
    | inl e ↦ rw (eq-eqb i k e) (sym (ap (λ z. is_before order z j) (sym e) ∙ here))
    | inr ne ↦ rw (ne_eqb i k ne) (done k (omega arith))
  ]

  pub before_left : (k : ℕ) → i + 1 ≤ k → has (insert_fact i row) k ≡ false
  before_left k le = has-insert_fact i row k ∙ rw (ne_eqb i k (omega arith)) (left k (omega arith))

  pub before_out : is_before order i j ≡ false → (k : ℕ) → k < i + 1 → has row k ≡ is_before order k j
  before_out here k lt = elim (cases_eq i k) [
    | inl e ↦ left k (omega arith) ∙ sym (ap (λ z. is_before order z j) (sym e) ∙ here)
    | inr ne ↦ done k (omega arith)
  ]

pub before_all : (words : List ℕ) (first end j : ℕ) (spans : List Span) (row : List ℕ) → IsRising row → first + length spans ≤ end
    → ((k : ℕ) → k < end → has row k ≡ is_before (pairs_of words first spans) k j) → ((k : ℕ) → end ≤ k → has row k ≡ false) → row ≡ plus [] (before_of (pairs_of words first spans) j)
before_all words first end j spans row rising stored done left =
    let order = pairs_of words first spans in
    plus_by [] row (before_of order j) tt rising (λ k. elim (cases_lt k end) [
      | inl l ↦ done k l
      | inr g ↦
          let at : first + (k - first) ≡ k = omega arith in
          left k g ∙ sym (before_by_row order k j ∙ ap (λ z. has (after_of order z) j) (sym at) ∙ ap (λ (z : List ℕ). has z j) (after-past words first (k - first) spans (omega arith)))
    ] ∙ sym (ap (λ z. z || false) (has_before order j k) ∙ or_false (is_before order k j)))
  where
    or_false : (a : Bool) → (a || false) ≡ a
    or_false true = refl
    or_false false = refl
