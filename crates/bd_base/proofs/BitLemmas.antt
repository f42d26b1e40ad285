-- Words of 64 bits as lists of positions.
use Rattle.std.proofs.Common.{◌≡◌, ℕ, zero, suc, ◌+◌, ◌-◌, ◌*◌, ◌/◌, ◌%◌, ◌<◌, ◌≤◌, Bool, true, false, cond, ◌||◌, eqb, List, [], ◌∷◌, ◌++◌, length, get_or, refl, sym, ap, ◌∙◌, subst, inl, inr, arith, append_assoc}
use Rattle.std.specs.Int.{bit_at}
use Rattle.std.proofs.lemmas.Bool.{cases_eq, cases_lt, eq-eqb, ne_eqb}
use Rattle.std.proofs.lemmas.Nat.Bits.{bit_at-zero}
use Rattle.bd_base.specs.Bits.{bits_from, bits_of, row_of, upto}
use Rattle.bd_base.specs.Facts.{has}

pub bits_agree : (base v w b k : ℕ) → ((i : ℕ) → b ≤ i → i < b + k → bit_at v i ≡ bit_at w i) → bits_from base v b k ≡ bits_from base w b k
unfolding bits_from
bits_agree base v w b zero h = refl
bits_agree base v w b (suc k) h =
    rw (h b (omega arith) (omega arith))
    (rw (bits_agree base v w (b + 1) k (λ i p q. h i (omega arith) (omega arith))) refl)

pub bits_none : (base w b k : ℕ) → ((i : ℕ) → b ≤ i → i < b + k → bit_at w i ≡ 0) → bits_from base w b k ≡ []
unfolding bits_from
bits_none base w b zero h = refl
bits_none base w b (suc k) h =
    rw (h b (omega arith) (omega arith)) (bits_none base w (b + 1) k (λ i p q. h i (omega arith) (omega arith)))

-- the first position, and what is left without it
pub bits_first : (base v w b k t : ℕ) → b ≤ t → t < b + k → bit_at v t ≡ 1 → bit_at w t ≡ 0
    → ((i : ℕ) → b ≤ i → i < t → bit_at v i ≡ 0)
    → ((i : ℕ) → i < b + k → (i ≡ t → ⊥) → bit_at w i ≡ bit_at v i)
    → bits_from base v b k ≡ (base + t) ∷ bits_from base w b k
unfolding bits_from
bits_first base v w b zero t low high on off none same = absurd (omega arith)
bits_first base v w b (suc k) t low high on off none same = elim (cases_eq b t) [
  | inl e ↦
      let here : bit_at v b ≡ 1 = ap (bit_at v) e ∙ on in
      let gone : bit_at w b ≡ 0 = ap (bit_at w) e ∙ off in
      rw (here, gone) (rw (bits_agree base v w (b + 1) k (λ i p q. sym (same i (omega arith) (omega arith)))) (ap (λ z. (base + z) ∷ bits_from base w (b + 1) k) e))
  | inr ne ↦
      let here : bit_at v b ≡ 0 = none b (omega arith) (omega arith) in
      let gone : bit_at w b ≡ 0 = same b (omega arith) ne ∙ here in
      rw (here, gone) (bits_first base v w (b + 1) k t (omega arith) (omega arith) on off (λ i p q. none i (omega arith) q) (λ i p q. same i (omega arith) q))
]

-- a position above all others
pub bits_last : (base v w b k t : ℕ) → b ≤ t → t < b + k → bit_at w t ≡ 1
    → ((i : ℕ) → t ≤ i → i < b + k → bit_at v i ≡ 0)
    → ((i : ℕ) → i < b + k → (i ≡ t → ⊥) → bit_at w i ≡ bit_at v i)
    → bits_from base w b k ≡ bits_from base v b k ++ (base + t) ∷ []
unfolding bits_from
bits_last base v w b zero t low high on none same = absurd (omega arith)
bits_last base v w b (suc k) t low high on none same = elim (cases_eq b t) [
  | inl e ↦
      let here : bit_at w b ≡ 1 = ap (bit_at w) e ∙ on in
      let gone : bit_at v b ≡ 0 = none b (omega arith) (omega arith) in
      rw (here, gone)
      (rw (bits_none base w (b + 1) k (λ i p q. same i (omega arith) (omega arith) ∙ none i (omega arith) (omega arith)), bits_none base v (b + 1) k (λ i p q. none i (omega arith) (omega arith)))
      (ap (λ z. (base + z) ∷ []) e))
  | inr ne ↦
      let more = bits_last base v w (b + 1) k t (omega arith) (omega arith) on (λ i p q. none i p (omega arith)) (λ i p q. same i (omega arith) q) in
      rw (same b (omega arith) ne, more) (joined (eqb (bit_at v b) 1) (base + b) (bits_from base v (b + 1) k) ((base + t) ∷ []))
]
  where
    joined : (c : Bool) (x : ℕ) (xs ys : List ℕ) → cond c (x ∷ (xs ++ ys)) (xs ++ ys) ≡ cond c (x ∷ xs) xs ++ ys
    joined true x xs ys = refl
    joined false x xs ys = refl

-- bits that are set in one run
pub bits_run : (base w b k lo n : ℕ) → b ≤ lo → lo + n ≤ b + k
    → ((i : ℕ) → b ≤ i → i < lo → bit_at w i ≡ 0)
    → ((i : ℕ) → lo ≤ i → i < lo + n → bit_at w i ≡ 1)
    → ((i : ℕ) → lo + n ≤ i → i < b + k → bit_at w i ≡ 0)
    → bits_from base w b k ≡ upto (base + lo) n
unfolding bits_from
bits_run base w b k lo zero low high below on above =
    bits_none base w b k (λ i p q. elim (cases_lt i lo) [ inl l ↦ below i p l | inr g ↦ above i (omega arith) q ])
bits_run base w b zero lo (suc n) low high below on above = absurd (omega arith)
bits_run base w b (suc k) lo (suc n) low high below on above = elim (cases_eq b lo) [
  | inl e ↦
      let more = bits_run base w (b + 1) k (lo + 1) n (omega arith) (omega arith) (λ i p q. absurd (omega arith)) (λ i p q. on i (omega arith) (omega arith)) (λ i p q. above i (omega arith) (omega arith)) in
      let next : base + (lo + 1) ≡ base + lo + 1 = omega arith in
      rw (on b (omega arith) (omega arith)) (rw (more, next) (ap (λ z. (base + z) ∷ upto (base + lo + 1) n) e))
  | inr ne ↦
      rw (below b (omega arith) (omega arith)) (bits_run base w (b + 1) k lo (suc n) (omega arith) (omega arith) (λ i p q. below i (omega arith) q) on (λ i p q. above i p (omega arith)))
]

pub has_bits_below : (base w b k q : ℕ) → q < base + b → has (bits_from base w b k) q ≡ false
unfolding bits_from
has_bits_below base w b zero q lt = refl
has_bits_below base w b (suc k) q lt =
    let later = has_bits_below base w (b + 1) k q (omega arith) in
    elim (eqb (bit_at w b) 1) as (λ c. has (cond c ((base + b) ∷ bits_from base w (b + 1) k) (bits_from base w (b + 1) k)) q ≡ false) [
      | true ↦ rw (ne_eqb (base + b) q (omega arith)) later
      | false ↦ later
    ]

pub has_bits_above : (base w b k q : ℕ) → base + (b + k) ≤ q → has (bits_from base w b k) q ≡ false
unfolding bits_from
has_bits_above base w b zero q le = refl
has_bits_above base w b (suc k) q le =
    let later = has_bits_above base w (b + 1) k q (omega arith) in
    elim (eqb (bit_at w b) 1) as (λ c. has (cond c ((base + b) ∷ bits_from base w (b + 1) k) (bits_from base w (b + 1) k)) q ≡ false) [
      | true ↦ rw (ne_eqb (base + b) q (omega arith)) later
      | false ↦ later
    ]

pub has_bits_at : (base w b k i : ℕ) → b ≤ i → i < b + k → has (bits_from base w b k) (base + i) ≡ eqb (bit_at w i) 1
unfolding bits_from
has_bits_at base w b zero i low high = absurd (omega arith)
has_bits_at base w b (suc k) i low high = elim (cases_eq b i) [
  | inl e ↦ subst (λ z. has (cond (eqb (bit_at w b) 1) ((base + b) ∷ bits_from base w (b + 1) k) (bits_from base w (b + 1) k)) (base + z) ≡ eqb (bit_at w z) 1) e
      (elim (eqb (bit_at w b) 1) as (λ c. has (cond c ((base + b) ∷ bits_from base w (b + 1) k) (bits_from base w (b + 1) k)) (base + b) ≡ c) [
        | true ↦ rw (eq-eqb (base + b) (base + b) refl) refl
        | false ↦ has_bits_below base w (b + 1) k (base + b) (omega arith)
      ])
  | inr ne ↦
      let later = has_bits_at base w (b + 1) k i (omega arith) (omega arith) in
      elim (eqb (bit_at w b) 1) as (λ c. has (cond c ((base + b) ∷ bits_from base w (b + 1) k) (bits_from base w (b + 1) k)) (base + i) ≡ eqb (bit_at w i) 1) [
        | true ↦ rw (ne_eqb (base + b) (base + i) (omega arith)) later
        | false ↦ later
      ]
]

pub has-append : (xs ys : List ℕ) (q : ℕ) → has (xs ++ ys) q ≡ (has xs q || has ys q)
has-append [] ys q = refl
has-append (x ∷ xs) ys q = rw (has-append xs ys q) (grouped (eqb x q) (has xs q) (has ys q))
  where
    grouped : (a b c : Bool) → (a || (b || c)) ≡ ((a || b) || c)
    grouped true b c = refl
    grouped false b c = refl

pub row_below : (words : List ℕ) (base q : ℕ) → q < base → has (row_of base words) q ≡ false
unfolding bits_of
row_below [] base q lt = refl
row_below (w ∷ words) base q lt =
    has-append (bits_of base w) (row_of (base + 64) words) q ∙ rw (has_bits_below base w 0 64 q (omega arith), row_below words (base + 64) q (omega arith)) refl

-- whether the words hold a position
pub has_row : (words : List ℕ) (base i : ℕ) → has (row_of base words) (base + i) ≡ eqb (bit_at (get_or words (i / 64) 0) (i % 64)) 1
unfolding bits_of
has_row [] base i = rw (bit_at-zero (i % 64)) refl
has_row (w ∷ words) base i = elim (cases_lt i 64) [
  | inl lt ↦
      let word : i / 64 ≡ 0 = omega arith in
      let bit : i % 64 ≡ i = omega arith in
      has-append (bits_of base w) (row_of (base + 64) words) (base + i)
      ∙ rw (has_bits_at base w 0 64 i (omega arith) (omega arith), row_below words (base + 64) (base + i) (omega arith), word, bit) (or_none (eqb (bit_at w i) 1))
  | inr ge ↦
      let word : i / 64 ≡ suc ((i - 64) / 64) = omega arith in
      let bit : i % 64 ≡ (i - 64) % 64 = omega arith in
      let place : base + i ≡ base + 64 + (i - 64) = omega arith in
      has-append (bits_of base w) (row_of (base + 64) words) (base + i)
      ∙ rw (has_bits_above base w 0 64 (base + i) (omega arith)) (rw (word, bit, place) (has_row words (base + 64) (i - 64)))
]
  where
    or_none : (a : Bool) → (a || false) ≡ a
    or_none true = refl
    or_none false = refl

pub row-append : (xs ys : List ℕ) (base : ℕ) → row_of base (xs ++ ys) ≡ row_of base xs ++ row_of (base + 64 * length xs) ys
row-append [] ys base = let e : base + 64 * 0 ≡ base = omega arith in rw e refl
row-append (x ∷ xs) ys base =
    let e : base + 64 + 64 * length xs ≡ base + 64 * suc (length xs) = omega arith in
    rw (row-append xs ys (base + 64), e) (sym (append_assoc (bits_of base x) (row_of (base + 64) xs) _))

pub upto-append : (a k m : ℕ) → upto a (k + m) ≡ upto a k ++ upto (a + k) m
upto-append a zero m = let e : zero + m ≡ m = omega arith in let f : a + zero ≡ a = omega arith in rw (e, f) refl
upto-append a (suc k) m =
    let e : suc k + m ≡ suc (k + m) = omega arith in
    let f : a + suc k ≡ a + 1 + k = omega arith in
    rw (e, f) (ap (λ z. a ∷ z) (upto-append (a + 1) k m))
