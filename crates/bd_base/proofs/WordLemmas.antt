-- What the steps of the code make of words.
use Rattle.std.proofs.Common.{◌≡◌, ℕ, zero, suc, ◌+◌, ◌-◌, ◌*◌, ◌/◌, ◌%◌, ◌^◌, ◌<◌, ◌≤◌, min, max, true, false, cond, eqb, List, [], ◌∷◌, ◌++◌, length, get_or, set, take, refl, sym, ap, ◌∙◌, subst, inl, inr, arith, append_assoc, length-append, w64}
use Rattle.std.specs.Prelude.{bit_and, bit_or, count_ones}
use lib.Count.{ones, ones_step}
use native.Mathlib.Nat.{pow-suc}
use Rattle.std.specs.Int.{bit_at, trailing_zeros}
use Rattle.std.proofs.lemmas.Bool.{cases_eq, cases_lt}
use Rattle.std.proofs.lemmas.Nat.{pow_pos, shr-shr}
use Rattle.std.proofs.lemmas.Nat.Bits.{bit_at-zero, bit_at-suc, bit_at_lowest, bit_at_and, bit_at_above, bit_at_set_same, bit_at_set_other, bit_at-trailing_zeros, bit_at_mask_inside, bit_at_mask_below, bit_at_ones, bit_at_ones_above, ones_shl, ones_shr}
use Rattle.bd_base.specs.Bits.{bits_from, bits_of, row_of, upto}
use Rattle.bd_base.specs.Facts.{has}
use Rattle.bd_base.proofs.BitLemmas.{bits_none, bits_first, bits_last, bits_run, has_row, row-append, upto-append}

pub take_whole : (xs : List ℕ) (n : ℕ) → length xs ≤ n → take n xs ≡ xs
take_whole [] zero le = refl
take_whole [] (suc n) le = refl
take_whole (x ∷ xs) zero le = absurd (omega arith)
take_whole (x ∷ xs) (suc n) le = ap (λ z. x ∷ z) (take_whole xs n (omega arith))

pub append-nil : (xs : List ℕ) → xs ++ [] ≡ xs
append-nil [] = refl
append-nil (x ∷ xs) = ap (λ z. x ∷ z) (append-nil xs)

pub nothing : (xs : List ℕ) → length xs ≡ 0 → xs ≡ []
nothing [] e = refl
nothing (x ∷ xs) e = absurd (omega arith)

pub bits_zero : (base : ℕ) → bits_of base 0 ≡ []
unfolding bits_of
bits_zero base = bits_none base 0 0 64 (λ i p q. bit_at-zero i)

-- a word without a position is passed
pub next_word : (base w first : ℕ) (words rest : List ℕ) → w ≡ 0 → words ≡ first ∷ rest
    → bits_of (base + 64) first ++ row_of (base + 64 + 64) rest ≡ bits_of base w ++ row_of (base + 64) words
next_word base w first words rest off split = rw (off, split, bits_zero base) refl

pub row_zero : (xs : List ℕ) (base : ℕ) → row_of base (xs ++ 0 ∷ []) ≡ row_of base xs
row_zero xs base = row-append xs (0 ∷ []) base ∙ rw (bits_zero (base + 64 * length xs)) (append-nil (row_of base xs))

below_pow : (w p : ℕ) → 0 < p → w / p ≡ 0 → w < p
below_pow w p pos none = let whole : p * (w / p) ≡ p * 0 = ap (λ z. p * z) none in omega arith

-- a position above all others of the last word
pub set_bit : (base w b : ℕ) → b < 64 → w / 2 ^ b ≡ 0 → bits_of base (bit_or w (1 * 2 ^ b % 2 ^ 64)) ≡ bits_of base w ++ (base + b) ∷ []
unfolding bits_of
set_bit base w b low none =
    let small : w < 2 ^ b = below_pow w (2 ^ b) (pow_pos b) none in
    bits_last base w _ 0 64 b (omega arith) (omega arith) (bit_at_set_same w64 w b low) (λ i p q. bit_at_above w b i small p) (λ i p q. bit_at_set_other w64 w b low i q)

pub row_set : (words : List ℕ) (base k v : ℕ) (more : List ℕ) → k + 1 ≡ length words
    → bits_of (base + 64 * k) v ≡ bits_of (base + 64 * k) (get_or words k 0) ++ more
    → row_of base (set words k v) ≡ row_of base words ++ more
row_set [] base k v more e h = absurd (omega arith)
row_set (w ∷ []) base zero v more e h =
    let at : base + 64 * 0 ≡ base = omega arith in
    let g : bits_of base v ≡ bits_of base w ++ more = subst (λ z. bits_of z v ≡ bits_of z w ++ more) at h in
    append-nil (bits_of base v) ∙ g ∙ ap (λ z. z ++ more) (sym (append-nil (bits_of base w)))
row_set (w ∷ x ∷ words) base zero v more e h = absurd (omega arith)
row_set (w ∷ words) base (suc k) v more e h =
    let at : base + 64 * suc k ≡ base + 64 + 64 * k = omega arith in
    let g = row_set words (base + 64) k v more (omega arith) (subst (λ z. bits_of z v ≡ bits_of z (get_or words k 0) ++ more) at h) in
    ap (λ z. bits_of base w ++ z) g ∙ sym (append_assoc (bits_of base w) (row_of (base + 64) words) more)

pub row_pushed : (words : List ℕ) (at k : ℕ) (w : ℕ) → k ≡ at / 64 → k + 1 ≡ length words → w ≡ get_or words k 0 → w / 2 ^ (at % 64) ≡ 0
    → row_of 0 (set words k (bit_or w (1 * 2 ^ (at % 64) % 2 ^ 64))) ≡ row_of 0 words ++ at ∷ []
row_pushed words at k w e len is none =
    let place : 0 + 64 * k + at % 64 ≡ at = omega arith in
    row_set words 0 k _ (at ∷ []) len
    (set_bit (0 + 64 * k) w (at % 64) (omega arith) none ∙ rw (place, is) refl)

-- the word without its lowest bit
less_one : (t w i : ℕ) → bit_at w t ≡ 1 → ((j : ℕ) → j < t → bit_at w j ≡ 0) → (bit_at (w - 1) t ≡ 0) × ((i ≡ t → ⊥) → min (bit_at w i) (bit_at (w - 1) i) ≡ bit_at w i)
less_one zero w zero on low = (omega (arith, bit_at_lowest w, bit_at_lowest (w - 1)), λ ne. absurd (ne refl))
less_one zero w (suc i) on low =
    let half : (w - 1) / 2 ≡ w / 2 = omega (arith, bit_at_lowest w) in (
      omega (arith, bit_at_lowest w, bit_at_lowest (w - 1)),
      λ ne. let same : bit_at (w - 1) (suc i) ≡ bit_at w (suc i) = bit_at-suc (w - 1) i ∙ ap (λ z. bit_at z i) half ∙ sym (bit_at-suc w i) in omega arith,
    )
less_one (suc t) w zero on low =
    let even : bit_at w 0 ≡ 0 = low 0 (omega arith) in
    let some : 0 < w = elim (cases_eq w 0) [ inl e ↦ absurd (let z = bit_at-zero (suc t) in let f = ap (λ z. bit_at z (suc t)) e in omega arith) | inr ne ↦ omega arith ] in
    let half : (w - 1) / 2 ≡ w / 2 - 1 = omega (arith, bit_at_lowest w) in
    let rest = less_one t (w / 2) t (sym (bit_at-suc w t) ∙ on) (λ j l. sym (bit_at-suc w j) ∙ low (suc j) (omega arith)) in
    (bit_at-suc (w - 1) t ∙ ap (λ z. bit_at z t) half ∙ rest.0, λ ne. omega arith)
less_one (suc t) w (suc i) on low =
    let even : bit_at w 0 ≡ 0 = low 0 (omega arith) in
    let some : 0 < w = elim (cases_eq w 0) [ inl e ↦ absurd (let z = bit_at-zero (suc t) in let f = ap (λ z. bit_at z (suc t)) e in omega arith) | inr ne ↦ omega arith ] in
    let half : (w - 1) / 2 ≡ w / 2 - 1 = omega (arith, bit_at_lowest w) in
    let rest = less_one t (w / 2) i (sym (bit_at-suc w t) ∙ on) (λ j l. sym (bit_at-suc w j) ∙ low (suc j) (omega arith)) in (
      bit_at-suc (w - 1) t ∙ ap (λ z. bit_at z t) half ∙ rest.0,
      λ ne. let a = bit_at-suc w i in let b : bit_at (w - 1) (suc i) ≡ bit_at (w / 2 - 1) i = bit_at-suc (w - 1) i ∙ ap (λ z. bit_at z i) half in let c = rest.1 (λ e. ne (ap suc e)) in omega arith,
    )

pub first_bit : (base w : ℕ) → 0 < w → w < 2 ^ 64 → bits_of base w ≡ (base + trailing_zeros w64 w) ∷ bits_of base (bit_and w (w - 1))
unfolding bits_of
first_bit base w some fits =
    let lowest = bit_at-trailing_zeros w64 w some fits in
    let t = trailing_zeros w64 w in
    let gone = less_one t w t lowest.1 lowest.2 in
    bits_first base w (bit_and w (w - 1)) 0 64 t (omega arith) (omega (arith, lowest.0)) lowest.1
    (let both = bit_at_and w (w - 1) t in omega (arith, both, gone.0))
    (λ i p q. lowest.2 i q)
    (λ i p q. bit_at_and w (w - 1) i ∙ (less_one t w i lowest.1 lowest.2).1 q)

-- the word of a run
pub run_bits : (base lo hi : ℕ) → lo < hi → hi ≤ 64 → bits_of base (bit_and ((2 ^ 64 - 1) * 2 ^ lo % 2 ^ 64) ((2 ^ 64 - 1) / 2 ^ (64 - hi))) ≡ upto (base + lo) (hi - lo)
unfolding bits_of
run_bits base lo hi lt le =
    let end : lo + (hi - lo) ≡ hi = omega arith in
    let back : 64 - (64 - hi) ≡ hi = omega arith in
    let high : (2 ^ 64 - 1) / 2 ^ (64 - hi) ≡ 2 ^ hi - 1 = ones_shr 64 (64 - hi) (omega arith) ∙ ap (λ z. 2 ^ z - 1) back in
    let low : (2 ^ 64 - 1) * 2 ^ lo % 2 ^ 64 ≡ 2 ^ 64 - 2 ^ lo = ones_shl 64 lo (omega arith) in
    let v : ℕ = bit_and (2 ^ 64 - 2 ^ lo) (2 ^ hi - 1) in
    rw (high, low)
    (bits_run base v 0 64 lo (hi - lo) (omega arith) (omega arith)
    (λ i p q. let a = bit_at_and (2 ^ 64 - 2 ^ lo) (2 ^ hi - 1) i in let b = bit_at_mask_below lo 64 i q in omega arith)
    (λ i p q. let a = bit_at_and (2 ^ 64 - 2 ^ lo) (2 ^ hi - 1) i in let b = bit_at_mask_inside lo 64 i p (omega arith) in let d = bit_at_ones hi i (omega arith) in omega arith)
    (λ i p q. let a = bit_at_and (2 ^ 64 - 2 ^ lo) (2 ^ hi - 1) i in let d = bit_at_ones_above hi i (omega arith) in omega arith))

-- a run up to the end of a word, and what the next word has of it
pub run_next : (from to w : ℕ) → from ≤ to
    → upto from (min (64 * (w + 1)) to - from) ≡ upto from (min (64 * w) to - from) ++ upto (max (64 * w) from) (min (64 * w + 64) to - max (64 * w) from)
run_next from to w order =
    let first : ℕ = min (64 * w) to - from in
    let more : ℕ = min (64 * w + 64) to - max (64 * w) from in
    elim (cases_lt (64 * w) to) [
      | inl lt ↦
          let joins : max (64 * w) from ≡ from + first = omega arith in
          let all : min (64 * (w + 1)) to - from ≡ first + more = omega arith in
          ap (upto from) all ∙ upto-append from first more ∙ ap (λ z. upto from first ++ upto z more) (sym joins)
      | inr ge ↦
          let none : more ≡ 0 = omega arith in
          let all : min (64 * (w + 1)) to - from ≡ first = omega arith in
          ap (upto from) all ∙ sym (ap (λ z. upto from first ++ upto (max (64 * w) from) z) none ∙ append-nil (upto from first))
    ]

-- one more word of a run
pub run_more : (xs : List ℕ) (from to w v : ℕ) → from ≤ to → length xs ≡ w
    → row_of 0 xs ≡ upto from (min (64 * w) to - from)
    → bits_of (64 * w) v ≡ upto (max (64 * w) from) (min (64 * w + 64) to - max (64 * w) from)
    → row_of 0 (xs ++ v ∷ []) ≡ upto from (min (64 * (w + 1)) to - from)
run_more xs from to w v order len made is =
    let at : 0 + 64 * length xs ≡ 64 * w = omega arith in
    row-append xs (v ∷ []) 0
    ∙ rw (at, made, is) (ap (λ z. upto from (min (64 * w) to - from) ++ z) (append-nil (upto (max (64 * w) from) (min (64 * w + 64) to - max (64 * w) from))) ∙ sym (run_next from to w order))

pub has_row_zero : (words : List ℕ) (i : ℕ) → has (row_of 0 words) i ≡ eqb (bit_at (get_or words (i / 64) 0) (i % 64)) 1
has_row_zero words i = let e : 0 + i ≡ i = omega arith in subst (λ z. has (row_of 0 words) z ≡ eqb (bit_at (get_or words (i / 64) 0) (i % 64)) 1) e (has_row words 0 i)

-- no position comes behind the words
past_end : (words : List ℕ) (k : ℕ) → length words ≤ k → get_or words k 0 ≡ 0
past_end [] k le = refl
past_end (w ∷ words) zero le = absurd (omega arith)
past_end (w ∷ words) (suc k) le = past_end words k (omega arith)

pub row_end : (words : List ℕ) (i : ℕ) → 64 * length words ≤ i → has (row_of 0 words) i ≡ false
row_end words i le = has_row_zero words i ∙ rw (past_end words (i / 64) (omega arith), bit_at-zero (i % 64)) refl

-- how many bits are set
no_ones : count_ones 0 ≡ 0
unfolding ones
no_ones = refl

ones_of : (base w b k : ℕ) → w / 2 ^ b < 2 ^ k → length (bits_from base w b k) ≡ count_ones (w / 2 ^ b)
unfolding bits_from
ones_of base w b zero small =
    let none : w / 2 ^ b ≡ 0 = omega arith in
    let zero_ones : count_ones 0 ≡ 0 = no_ones in
    sym (ap (λ z. count_ones z) none ∙ zero_ones)
ones_of base w b (suc k) small =
    let half : w / 2 ^ b / 2 ≡ w / 2 ^ (b + 1) = shr-shr w b 1 in
    let more = ones_of base w (b + 1) k (subst (λ z. z < 2 ^ k) half (omega (arith, pow-suc 2 k))) in
    let step = ones_step (w / 2 ^ b) in
    elim (cases_eq (bit_at w b) 1) [
      | inl e ↦ rw e (let n : length (bits_from base w (b + 1) k) ≡ count_ones (w / 2 ^ b / 2) = more ∙ ap (λ z. count_ones z) (sym half) in omega arith)
      | inr ne ↦
          let off : bit_at w b ≡ 0 = omega arith in
          rw off (let n : length (bits_from base w (b + 1) k) ≡ count_ones (w / 2 ^ b / 2) = more ∙ ap (λ z. count_ones z) (sym half) in omega arith)
    ]

pub word_ones : (base w : ℕ) → w < 2 ^ 64 → length (bits_of base w) ≡ count_ones w
unfolding bits_of
word_ones base w small = ones_of base w 0 64 (omega arith) ∙ ap (λ z. count_ones z) (let e : w / 2 ^ 0 ≡ w = omega arith in e)

pub count_more : (xs : List ℕ) (w n : ℕ) → w < 2 ^ 64 → n ≡ length (row_of 0 xs) → n + count_ones w ≡ length (row_of 0 (xs ++ w ∷ []))
count_more xs w n small is =
    let split : row_of 0 (xs ++ w ∷ []) ≡ row_of 0 xs ++ bits_of (64 * length xs) w = row-append xs (w ∷ []) 0 ∙ (let e : 0 + 64 * length xs ≡ 64 * length xs = omega arith in rw e (ap (λ z. row_of 0 xs ++ z) (append-nil (bits_of (64 * length xs) w)))) in
    let both : length (row_of 0 (xs ++ w ∷ [])) ≡ length (row_of 0 xs) + length (bits_of (64 * length xs) w) = ap (λ (z : List ℕ). length z) split ∙ length-append (row_of 0 xs) (bits_of (64 * length xs) w) in
    omega (arith, both, word_ones (64 * length xs) w small)

bits_short : (base w b k : ℕ) → length (bits_from base w b k) ≤ k
unfolding bits_from
bits_short base w b zero = omega arith
bits_short base w b (suc k) =
    let more = bits_short base w (b + 1) k in
    elim (eqb (bit_at w b) 1) as (λ c. length (cond c ((base + b) ∷ bits_from base w (b + 1) k) (bits_from base w (b + 1) k)) ≤ suc k) [
      | true ↦ omega arith
      | false ↦ omega arith
    ]

pub few_ones : (w : ℕ) → w < 2 ^ 64 → count_ones w ≤ 64
unfolding bits_of
few_ones w small = omega (arith, word_ones 0 w small, bits_short 0 w 0 64)
