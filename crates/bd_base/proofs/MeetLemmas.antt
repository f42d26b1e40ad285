-- Rows that keep what another row has.
use Rattle.std.proofs.Common.{◌≡◌, ℕ, ◌+◌, ◌*◌, ◌/◌, ◌%◌, ◌^◌, ◌<◌, ◌≤◌, Bool, true, false, cond, ◌&&◌, ◌||◌, eqb, List, [], ◌∷◌, length, get_or, set, refl, sym, ap, ◌∙◌, subst, inl, inr, arith, w64}
use Rattle.std.specs.Int.{bit_at}
use Rattle.std.specs.List.{filter}
use Rattle.std.specs.Prelude.{bit_and, bit_or}
use Rattle.std.proofs.lemmas.Bool.{cases_eq, eq-eqb, ne_eqb}
use Rattle.std.proofs.lemmas.Nat.Bits.{bit_at_set_same, bit_at_set_other}
use Rattle.bd_base.specs.Bits.{row_of}
use Rattle.bd_base.specs.Facts.{IsBelowAll, IsRising, has}
use Rattle.bd_base.proofs.FactLemmas.{rising_same}
use Rattle.bd_base.proofs.SetLemmas.{has_words, get-set, on, on_is, on_and}

pub has-filter : (p : ℕ → Bool) (s : List ℕ) (q : ℕ) → has (filter p s) q ≡ (p q && has s q)
has-filter p [] q = elim (p q) as (λ c. false ≡ (c && false)) [ true ↦ refl | false ↦ refl ]
has-filter p (x ∷ s) q = step (p x) refl (has-filter p s q)
  where
    step : (c : Bool) → p x ≡ c → has (filter p s) q ≡ (p q && has s q) → has (cond (p x) (x ∷ filter p s) (filter p s)) q ≡ (p q && (eqb x q || has s q))
    step true e more = rw e (rw more (elim (cases_eq x q) [
      | inl f ↦ let here : p q ≡ true = sym (ap p f) ∙ e in rw (eq-eqb x q f, here) refl
      | inr nf ↦ rw (ne_eqb x q nf) refl
    ]))
    step false e more = rw e (more ∙ elim (cases_eq x q) [
      | inl f ↦ let here : p q ≡ false = sym (ap p f) ∙ e in rw here refl
      | inr nf ↦ rw (ne_eqb x q nf) refl
    ])

below-filter : (x : ℕ) (p : ℕ → Bool) (s : List ℕ) → IsBelowAll x s → IsBelowAll x (filter p s)
below-filter x p [] b = tt
below-filter x p (y ∷ s) b = elim (p y) as (λ c. IsBelowAll x (cond c (y ∷ filter p s) (filter p s))) [
  | true ↦ (b.0, below-filter x p s b.1)
  | false ↦ below-filter x p s b.1
]

pub rising-filter : (p : ℕ → Bool) (s : List ℕ) → IsRising s → IsRising (filter p s)
rising-filter p [] r = tt
rising-filter p (y ∷ s) r = elim (p y) as (λ c. IsRising (cond c (y ∷ filter p s) (filter p s))) [
  | true ↦ (below-filter y p s r.0, rising-filter p s r.1)
  | false ↦ rising-filter p s r.1
]

pub filter_by : (s t : List ℕ) (p : ℕ → Bool) → IsRising s → IsRising t → ((q : ℕ) → has t q ≡ (p q && has s q)) → t ≡ filter p s
filter_by s t p rs rt h = rising_same t (filter p s) rt (rising-filter p s rs) (λ q. h q ∙ sym (has-filter p s q))

and_turned : (a b : Bool) → (a && b) ≡ (b && a)
and_turned true true = refl
and_turned true false = refl
and_turned false true = refl
and_turned false false = refl

-- one word that keeps what a row has
module _ (words of : List ℕ) (n u old : ℕ) (lt : n < length words) (is : old ≡ get_or words n 0) (own : (b : ℕ) → b < 64 → has of (64 * n + b) ≡ eqb (bit_at u b) 1) where
  pub met_here : (q : ℕ) → n ≡ q / 64 → has (row_of 0 (set words n (bit_and old u))) q ≡ (has of q && has (row_of 0 words) q)
  met_here q e =
      let place : 64 * n + q % 64 ≡ q = omega arith in
      let bit = q % 64 in
      let theirs : has of q ≡ on u bit = ap (has of) (sym place) ∙ own bit (omega arith) ∙ sym (on_is u bit) in
      let mine : has (row_of 0 words) q ≡ on old bit = has_words words q ∙ ap (λ z. on (get_or words z 0) bit) (sym e) ∙ ap (λ z. on z bit) (sym is) in
      has_words (set words n (bit_and old u)) q ∙ ap (λ z. on z bit) (get-set words n (q / 64) (bit_and old u) lt ∙ rw (eq-eqb n (q / 64) e) refl)
      ∙ on_and old u bit ∙ and_turned (on old bit) (on u bit) ∙ rw (← theirs, ← mine) refl

  pub met_other : (q : ℕ) → (n ≡ q / 64 → ⊥) → has (row_of 0 (set words n (bit_and old u))) q ≡ has (row_of 0 words) q
  met_other q ne =
      has_words (set words n (bit_and old u)) q ∙ ap (λ z. on z (q % 64)) (get-set words n (q / 64) (bit_and old u) lt ∙ rw (ne_eqb n (q / 64) ne) refl) ∙ sym (has_words words q)

-- one position of a word that is tested
module _ (s : List ℕ) (n word b : ℕ) (low : b < 64) (done : (i : ℕ) → i < b → has s (64 * n + i) ≡ eqb (bit_at word i) 1) (left : (i : ℕ) → b ≤ i → bit_at word i ≡ 0) where
  pub tested_in : has s (64 * n + b) ≡ true → (i : ℕ) → i < b + 1 → has s (64 * n + i) ≡ eqb (bit_at (bit_or word (1 * 2 ^ b % 2 ^ 64)) i) 1
  tested_in here i lt = elim (cases_eq b i) [
    | inl e ↦ subst (λ z. has s (64 * n + z) ≡ eqb (bit_at (bit_or word (1 * 2 ^ b % 2 ^ 64)) z) 1) e (here ∙ sym (eq-eqb _ 1 (bit_at_set_same w64 word b low)))
    | inr ne ↦ done i (omega arith) ∙ ap (λ z. eqb z 1) (sym (bit_at_set_other w64 word b low i (λ e. ne (sym e))))
  ]

  pub tested_left : (i : ℕ) → b + 1 ≤ i → bit_at (bit_or word (1 * 2 ^ b % 2 ^ 64)) i ≡ 0
  tested_left i le = bit_at_set_other w64 word b low i (omega arith) ∙ left i (omega arith)

  pub tested_out : has s (64 * n + b) ≡ false → (i : ℕ) → i < b + 1 → has s (64 * n + i) ≡ eqb (bit_at word i) 1
  tested_out here i lt = elim (cases_eq b i) [
    | inl e ↦ subst (λ z. has s (64 * n + z) ≡ eqb (bit_at word z) 1) e (here ∙ sym (ne_eqb (bit_at word b) 1 (let none = left b (omega arith) in omega arith)))
    | inr ne ↦ done i (omega arith)
  ]
