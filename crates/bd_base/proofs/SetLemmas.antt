-- Sets of facts by the words that hold them.
use Rattle.std.proofs.Common.{◌≡◌, ℕ, zero, suc, ◌+◌, ◌*◌, ◌/◌, ◌%◌, ◌^◌, ◌<◌, ◌≤◌, Bool, true, false, cond, not, ◌&&◌, ◌||◌, eqb, List, [], ◌∷◌, ◌++◌, length, get_or, set, take, drop, refl, sym, ap, ◌∙◌, subst, inl, inr, arith, w64, add-one, drop-cons}
use Rattle.std.specs.Prelude.{bit_and, bit_or}
use Rattle.std.specs.Int.{bit_at, bit_not, trailing_zeros}
use Rattle.std.specs.List.{list_any, list_all}
use Rattle.std.proofs.lemmas.List.Folds.{list_any-append}
use Rattle.std.proofs.lemmas.Nat.{and_le_l}
use Rattle.std.proofs.lemmas.Bool.{cases_eq, cases_lt, eq-eqb, ne_eqb, eqb-true, or_right, or_cases, both_ways}
use Rattle.std.proofs.lemmas.Nat.Bits.{bit_at-zero, bit_at_and, bit_at_or, bit_at_not, bit_at_set_same, bit_at_set_other, bit_at-trailing_zeros}
use Rattle.std.proofs.lemmas.Grind.{take_at_read}
use Rattle.bd_base.specs.Bits.{bits_from, bits_of, row_of}
use Rattle.bd_base.specs.Facts.{IsBelowAll, IsRising, has, plus, minus, insert_fact, remove_fact}
use Rattle.bd_base.proofs.BitLemmas.{bits_run, has_bits_at, has_bits_below, has_bits_above}
use Rattle.bd_base.proofs.WordLemmas.{has_row_zero, bits_zero}
use Rattle.bd_base.proofs.FactLemmas.{rising_same, has-plus, has-minus, rising-plus, rising-minus}

-- ---- words rise

below-append : (x : ℕ) (xs ys : List ℕ) → IsBelowAll x xs → IsBelowAll x ys → IsBelowAll x (xs ++ ys)
below-append x [] ys a b = b
below-append x (y ∷ xs) ys a b = (a.0, below-append x xs ys a.1 b)

below-bits : (x base w b k : ℕ) → x < base + b → IsBelowAll x (bits_from base w b k)
unfolding bits_from
below-bits x base w b zero lt = tt
below-bits x base w b (suc k) lt =
    let later = below-bits x base w (b + 1) k (omega arith) in
    elim (eqb (bit_at w b) 1) as (λ c. IsBelowAll x (cond c ((base + b) ∷ bits_from base w (b + 1) k) (bits_from base w (b + 1) k))) [
      | true ↦ (lt, later)
      | false ↦ later
    ]

rising-bits : (base w b k : ℕ) (ys : List ℕ) → IsRising ys → ((x : ℕ) → x < base + (b + k) → IsBelowAll x ys) → IsRising (bits_from base w b k ++ ys)
unfolding bits_from
rising-bits base w b zero ys r low = r
rising-bits base w b (suc k) ys r low =
    let later = rising-bits base w (b + 1) k ys r (λ x lt. low x (omega arith)) in
    elim (eqb (bit_at w b) 1) as (λ c. IsRising (cond c ((base + b) ∷ bits_from base w (b + 1) k) (bits_from base w (b + 1) k) ++ ys)) [
      | true ↦ (below-append (base + b) (bits_from base w (b + 1) k) ys (below-bits (base + b) base w (b + 1) k (omega arith)) (low (base + b) (omega arith)), later)
      | false ↦ later
    ]

pub below-word : (x base w : ℕ) (ys : List ℕ) → x < base → IsBelowAll x ys → IsBelowAll x (bits_of base w ++ ys)
unfolding bits_of
below-word x base w ys lt b = below-append x (bits_from base w 0 64) ys (below-bits x base w 0 64 (omega arith)) b

pub rising-word : (base w : ℕ) (ys : List ℕ) → IsRising ys → ((x : ℕ) → x < base + 64 → IsBelowAll x ys) → IsRising (bits_of base w ++ ys)
unfolding bits_of
rising-word base w ys r low = rising-bits base w 0 64 ys r (λ x lt. low x (omega arith))

below-row : (words : List ℕ) (base x : ℕ) → x < base → IsBelowAll x (row_of base words)
below-row [] base x lt = tt
below-row (w ∷ words) base x lt = below-word x base w (row_of (base + 64) words) lt (below-row words (base + 64) x (omega arith))

pub rising-row : (words : List ℕ) (base : ℕ) → IsRising (row_of base words)
rising-row [] base = tt
rising-row (w ∷ words) base = rising-word base w (row_of (base + 64) words) (rising-row words (base + 64)) (λ x lt. below-row words (base + 64) x lt)

-- ---- sets that have the same facts

pub plus_by : (s t r : List ℕ) → IsRising s → IsRising t → ((q : ℕ) → has t q ≡ (has r q || has s q)) → t ≡ plus s r
plus_by s t r a b h = rising_same t (plus s r) b (rising-plus s r a) (λ q. h q ∙ sym (has-plus s r q))

pub minus_by : (s t r : List ℕ) → IsRising s → IsRising t → ((q : ℕ) → has t q ≡ (not (has r q) && has s q)) → t ≡ minus s r
minus_by s t r a b h = rising_same t (minus s r) b (rising-minus s r a) (λ q. h q ∙ sym (has-minus s r q))

pub plus-append : (s xs ys : List ℕ) → plus s (xs ++ ys) ≡ plus (plus s xs) ys
plus-append s [] ys = refl
plus-append s (x ∷ xs) ys = plus-append (insert_fact x s) xs ys

pub minus-append : (s xs ys : List ℕ) → minus s (xs ++ ys) ≡ minus (minus s xs) ys
minus-append s [] ys = refl
minus-append s (x ∷ xs) ys = minus-append (remove_fact x s) xs ys

or_false : (a : Bool) → (a || false) ≡ a
or_false true = refl
or_false false = refl

pub plus-none : (s : List ℕ) → IsRising s → s ≡ plus [] s
plus-none s r = plus_by [] s s tt r (λ q. sym (or_false (has s q)))

-- ---- tests of bits

pub on : ℕ → ℕ → Bool
unfolding bits_of
on w i = eqb (bit_at w i) 1

pub on_is : (w i : ℕ) → on w i ≡ eqb (bit_at w i) 1
unfolding on
on_is w i = refl

on_cases : (w i : ℕ) (b : Bool) → (bit_at w i ≡ 1 → b ≡ true) → (bit_at w i ≡ 0 → b ≡ false) → on w i ≡ b
unfolding on
on_cases w i b yes' no' = elim (cases_eq (bit_at w i) 1) [
  | inl e ↦ eq-eqb (bit_at w i) 1 e ∙ sym (yes' e)
  | inr ne ↦ ne_eqb (bit_at w i) 1 ne ∙ sym (no' (omega arith))
]

on-one : (w i : ℕ) → bit_at w i ≡ 1 → on w i ≡ true
unfolding on
on-one w i e = eq-eqb (bit_at w i) 1 e

on-none : (w i : ℕ) → bit_at w i ≡ 0 → on w i ≡ false
unfolding on
on-none w i e = ne_eqb (bit_at w i) 1 (omega arith)

pub on_zero : (i : ℕ) → on 0 i ≡ false
on_zero i = on-none 0 i (bit_at-zero i)

pub on_or : (a b i : ℕ) → on (bit_or a b) i ≡ (on b i || on a i)
on_or a b i =
    let both = bit_at_or a b i in
    elim (cases_eq (bit_at b i) 1) [
      | inl e ↦ on-one (bit_or a b) i (omega arith) ∙ rw (on-one b i e) refl
      | inr ne ↦ elim (cases_eq (bit_at a i) 1) [
        | inl e ↦ on-one (bit_or a b) i (omega arith) ∙ rw (on-none b i (omega arith), on-one a i e) refl
        | inr nf ↦ on-none (bit_or a b) i (omega arith) ∙ rw (on-none b i (omega arith), on-none a i (omega arith)) refl
      ]
    ]

pub on_and : (a b i : ℕ) → on (bit_and a b) i ≡ (on a i && on b i)
on_and a b i =
    let both = bit_at_and a b i in
    elim (cases_eq (bit_at a i) 1) [
      | inl e ↦ elim (cases_eq (bit_at b i) 1) [
        | inl f ↦ on-one (bit_and a b) i (omega arith) ∙ rw (on-one a i e, on-one b i f) refl
        | inr nf ↦ on-none (bit_and a b) i (omega arith) ∙ rw (on-one a i e, on-none b i (omega arith)) refl
      ]
      | inr ne ↦ on-none (bit_and a b) i (omega arith) ∙ rw (on-none a i (omega arith)) refl
    ]

pub on_without : (a b i : ℕ) → b < 2 ^ 64 → i < 64 → on (bit_and a (bit_not w64 b)) i ≡ (not (on b i) && on a i)
on_without a b i small low =
    let both = bit_at_and a (bit_not w64 b) i in
    let off = bit_at_not w64 b i small low in
    elim (cases_eq (bit_at b i) 1) [
      | inl e ↦ on-none (bit_and a (bit_not w64 b)) i (omega arith) ∙ rw (on-one b i e) refl
      | inr ne ↦ elim (cases_eq (bit_at a i) 1) [
        | inl e ↦ on-one (bit_and a (bit_not w64 b)) i (omega arith) ∙ rw (on-none b i (omega arith), on-one a i e) refl
        | inr nf ↦ on-none (bit_and a (bit_not w64 b)) i (omega arith) ∙ rw (on-none b i (omega arith), on-none a i (omega arith)) refl
      ]
    ]

-- whether a word with a number has a fact
pub has_word : (n w q : ℕ) → has (bits_of (64 * n) w) q ≡ (eqb n (q / 64) && on w (q % 64))
unfolding bits_of on
has_word n w q = elim (cases_eq n (q / 64)) [
  | inl e ↦
      let place : 64 * n + q % 64 ≡ q = omega arith in
      rw (eq-eqb n (q / 64) e) (subst (λ z. has (bits_from (64 * n) w 0 64) z ≡ eqb (bit_at w (q % 64)) 1) place (has_bits_at (64 * n) w 0 64 (q % 64) (omega arith) (omega arith)))
  | inr ne ↦ rw (ne_eqb n (q / 64) ne) (elim (cases_lt q (64 * n)) [
    | inl lt ↦ has_bits_below (64 * n) w 0 64 q (omega arith)
    | inr ge ↦ has_bits_above (64 * n) w 0 64 q (omega arith)
  ])
]

-- ---- changes of plain words

pub has_words : (words : List ℕ) (q : ℕ) → has (row_of 0 words) q ≡ on (get_or words (q / 64) 0) (q % 64)
unfolding on
has_words words q = has_row_zero words q

pub get-set : (words : List ℕ) (n m v : ℕ) → n < length words → get_or (set words n v) m 0 ≡ cond (eqb n m) v (get_or words m 0)
get-set [] n m v lt = absurd (omega arith)
get-set (w ∷ words) zero zero v lt = refl
get-set (w ∷ words) zero (suc m) v lt = rw (ne_eqb 0 (suc m) (λ e. omega arith)) refl
get-set (w ∷ words) (suc n) zero v lt = rw (ne_eqb (suc n) 0 (λ e. omega arith)) refl
get-set (w ∷ words) (suc n) (suc m) v lt = elim (cases_eq n m) [
  | inl e ↦ rw (eq-eqb (suc n) (suc m) (ap suc e)) (get-set words n m v (omega arith) ∙ rw (eq-eqb n m e) refl)
  | inr ne ↦ rw (ne_eqb (suc n) (suc m) (λ e. ne (omega arith))) (get-set words n m v (omega arith) ∙ rw (ne_eqb n m ne) refl)
]

past : (words : List ℕ) (n : ℕ) → length words ≤ n → get_or words n 0 ≡ 0
past [] n le = refl
past (w ∷ words) zero le = absurd (omega arith)
past (w ∷ words) (suc n) le = past words n (omega arith)

module _ (words : List ℕ) (n w v : ℕ) (lt : n < length words) where
  here : (q : ℕ) → n ≡ q / 64 → get_or (set words n v) (q / 64) 0 ≡ v
  here q e = get-set words n (q / 64) v lt ∙ rw (eq-eqb n (q / 64) e) refl

  other : (q : ℕ) → (n ≡ q / 64 → ⊥) → get_or (set words n v) (q / 64) 0 ≡ get_or words (q / 64) 0
  other q ne = get-set words n (q / 64) v lt ∙ rw (ne_eqb n (q / 64) ne) refl

  pub word_put : ((i : ℕ) → i < 64 → on v i ≡ (on w i || on (get_or words n 0) i)) → row_of 0 (set words n v) ≡ plus (row_of 0 words) (bits_of (64 * n) w)
  word_put bits = plus_by (row_of 0 words) (row_of 0 (set words n v)) (bits_of (64 * n) w) (rising-row words 0) (rising-row (set words n v) 0) (λ q.
      has_words (set words n v) q ∙ rw (has_word n w q, has_words words q) (elim (cases_eq n (q / 64)) [
        | inl e ↦ rw (here q e, eq-eqb n (q / 64) e) (bits (q % 64) (omega arith) ∙ ap (λ z. on w (q % 64) || on (get_or words z 0) (q % 64)) e)
        | inr ne ↦ rw (other q ne, ne_eqb n (q / 64) ne) refl
      ]))

  pub word_cleared : ((i : ℕ) → i < 64 → on v i ≡ (not (on w i) && on (get_or words n 0) i)) → row_of 0 (set words n v) ≡ minus (row_of 0 words) (bits_of (64 * n) w)
  word_cleared bits = minus_by (row_of 0 words) (row_of 0 (set words n v)) (bits_of (64 * n) w) (rising-row words 0) (rising-row (set words n v) 0) (λ q.
      has_words (set words n v) q ∙ rw (has_word n w q, has_words words q) (elim (cases_eq n (q / 64)) [
        | inl e ↦ rw (here q e, eq-eqb n (q / 64) e) (bits (q % 64) (omega arith) ∙ ap (λ z. not (on w (q % 64)) && on (get_or words z 0) (q % 64)) e)
        | inr ne ↦ rw (other q ne, ne_eqb n (q / 64) ne) refl
      ]))

pub put_or : (words : List ℕ) (n w old : ℕ) → n < length words → old ≡ get_or words n 0 → row_of 0 (set words n (bit_or old w)) ≡ plus (row_of 0 words) (bits_of (64 * n) w)
put_or words n w old lt is = word_put words n w (bit_or old w) lt (λ i l. on_or old w i ∙ ap (λ z. on w i || on z i) is)

pub clear_and : (words : List ℕ) (n w old : ℕ) → n < length words → old ≡ get_or words n 0 → w < 2 ^ 64 → row_of 0 (set words n (bit_and old (bit_not w64 w))) ≡ minus (row_of 0 words) (bits_of (64 * n) w)
clear_and words n w old lt is small = word_cleared words n w (bit_and old (bit_not w64 w)) lt (λ i l. on_without old w i small l ∙ ap (λ z. not (on w i) && on z i) is)

pub clear_past : (words : List ℕ) (n w : ℕ) → length words ≤ n → row_of 0 words ≡ minus (row_of 0 words) (bits_of (64 * n) w)
clear_past words n w le = minus_by (row_of 0 words) (row_of 0 words) (bits_of (64 * n) w) (rising-row words 0) (rising-row words 0) (λ q.
    rw (has_word n w q, has_words words q) (elim (cases_eq n (q / 64)) [
      | inl e ↦ let none : get_or words (q / 64) 0 ≡ 0 = past words (q / 64) (omega arith) in rw (none, on_zero (q % 64)) (sym (and_none (not (eqb n (q / 64) && on w (q % 64)))))
      | inr ne ↦ rw (ne_eqb n (q / 64) ne) refl
    ]))
  where
    and_none : (a : Bool) → (a && false) ≡ false
    and_none true = refl
    and_none false = refl

-- one word less to put in or take out
pub row_split : (words : List ℕ) (n : ℕ) → n < length words → row_of (64 * n) (drop n words) ≡ bits_of (64 * n) (get_or words n 0) ++ row_of (64 * (n + 1)) (drop (n + 1) words)
row_split words n lt =
    let next : 64 * n + 64 ≡ 64 * (n + 1) = omega arith in
    let split : drop n words ≡ get_or words n 0 ∷ drop (n + 1) words = rw add-one (drop-cons words n 0 lt) in
    ap (row_of (64 * n)) split ∙ rw next refl

pub plus_step : (s t words : List ℕ) (n : ℕ) → n < length words → t ≡ plus s (bits_of (64 * n) (get_or words n 0)) → plus t (row_of (64 * (n + 1)) (drop (n + 1) words)) ≡ plus s (row_of (64 * n) (drop n words))
plus_step s t words n lt is =
    let rest = row_of (64 * (n + 1)) (drop (n + 1) words) in
    ap (λ (z : List ℕ). plus z rest) is ∙ sym (plus-append s (bits_of (64 * n) (get_or words n 0)) rest) ∙ ap (plus s) (sym (row_split words n lt))

pub minus_step : (s t words : List ℕ) (n : ℕ) → n < length words → t ≡ minus s (bits_of (64 * n) (get_or words n 0)) → minus t (row_of (64 * (n + 1)) (drop (n + 1) words)) ≡ minus s (row_of (64 * n) (drop n words))
minus_step s t words n lt is =
    let rest = row_of (64 * (n + 1)) (drop (n + 1) words) in
    ap (λ (z : List ℕ). minus z rest) is ∙ sym (minus-append s (bits_of (64 * n) (get_or words n 0)) rest) ∙ ap (minus s) (sym (row_split words n lt))

pub drop_all : {X : Type 0} (xs : List X) (n : ℕ) → length xs ≤ n → drop n xs ≡ []
drop_all [] zero le = refl
drop_all [] (suc n) le = refl
drop_all (x ∷ xs) zero le = absurd (omega arith)
drop_all (x ∷ xs) (suc n) le = drop_all xs n (omega arith)

-- ---- one fact

or_none : (m i : ℕ) → bit_at (1 * 2 ^ m % 2 ^ 64) i ≡ bit_at (bit_or 0 (1 * 2 ^ m % 2 ^ 64)) i
or_none m i = let both = bit_at_or 0 (1 * 2 ^ m % 2 ^ 64) i in let none = bit_at-zero i in omega arith

-- the word of one fact
pub single : (f : ℕ) → bits_of (64 * (f / 64)) (1 * 2 ^ (f % 64) % 2 ^ 64) ≡ f ∷ []
unfolding bits_of
single f =
    let bit : ℕ = f % 64 in
    let place : 64 * (f / 64) + f % 64 ≡ f = omega arith in
    bits_run (64 * (f / 64)) (1 * 2 ^ bit % 2 ^ 64) 0 64 bit 1 (omega arith) (omega arith)
    (λ i p q. or_none bit i ∙ bit_at_set_other w64 0 bit (omega arith) i (omega arith) ∙ bit_at-zero i)
    (λ i p q. let same : i ≡ bit = omega arith in or_none bit i ∙ ap (bit_at (bit_or 0 (1 * 2 ^ bit % 2 ^ 64))) same ∙ bit_at_set_same w64 0 bit (omega arith))
    (λ i p q. or_none bit i ∙ bit_at_set_other w64 0 bit (omega arith) i (omega arith) ∙ bit_at-zero i)
    ∙ ap (λ z. z ∷ []) place

pub put_single : (s : List ℕ) (f : ℕ) → plus s (bits_of (64 * (f / 64)) (1 * 2 ^ (f % 64) % 2 ^ 64)) ≡ insert_fact f s
put_single s f = ap (plus s) (single f)

pub clear_single : (s : List ℕ) (f : ℕ) → minus s (bits_of (64 * (f / 64)) (1 * 2 ^ (f % 64) % 2 ^ 64)) ≡ remove_fact f s
clear_single s f = ap (minus s) (single f)

pub minus-none : (xs : List ℕ) → [] ≡ minus [] xs
minus-none [] = refl
minus-none (x ∷ xs) = minus-none xs

pub plus-push : (facts : List ℕ) (n : ℕ) → n < length facts → plus [] (take (n + 1) facts) ≡ insert_fact (get_or facts n 0) (plus [] (take n facts))
plus-push facts n lt = ap (plus []) (take_at_read facts n 0 lt).1 ∙ plus-append [] (take n facts) (get_or facts n 0 ∷ [])

-- ---- shared facts

any_none : (p : ℕ → Bool) (base w b k : ℕ) → ((i : ℕ) → b ≤ i → i < b + k → bit_at w i ≡ 1 → p (base + i) ≡ false) → list_any p (bits_from base w b k) ≡ false
unfolding bits_from
any_none p base w b zero h = refl
any_none p base w b (suc k) h =
    let later = any_none p base w (b + 1) k (λ i a l e. h i (omega arith) (omega arith) e) in
    elim (cases_eq (bit_at w b) 1) [
      | inl e ↦ rw (eq-eqb (bit_at w b) 1 e) (rw (h b (omega arith) (omega arith) e) later)
      | inr ne ↦ rw (ne_eqb (bit_at w b) 1 ne) later
    ]

any_one : (p : ℕ → Bool) (base w b k i : ℕ) → b ≤ i → i < b + k → bit_at w i ≡ 1 → p (base + i) ≡ true → list_any p (bits_from base w b k) ≡ true
unfolding bits_from
any_one p base w b zero i low high e t = absurd (omega arith)
any_one p base w b (suc k) i low high e t = elim (cases_eq b i) [
  | inl same ↦
      let on' : bit_at w b ≡ 1 = ap (bit_at w) same ∙ e in
      let here : p (base + b) ≡ true = ap (λ z. p (base + z)) same ∙ t in
      rw (eq-eqb (bit_at w b) 1 on') (rw here refl)
  | inr ne ↦
      let later = any_one p base w (b + 1) k i (omega arith) (omega arith) e t in
      elim (cases_eq (bit_at w b) 1) [
        | inl here ↦ rw (eq-eqb (bit_at w b) 1 here) (or_right (p (base + b)) _ later)
        | inr off ↦ rw (ne_eqb (bit_at w b) 1 off) later
      ]
]

-- whether a set has a fact of a word: by the set's own word
pub any_word : (s : List ℕ) (n u w : ℕ) → u < 2 ^ 64 → ((b : ℕ) → b < 64 → has s (64 * n + b) ≡ eqb (bit_at u b) 1) → list_any (has s) (bits_of (64 * n) w) ≡ not (eqb (bit_and u w) 0)
unfolding bits_of
any_word s n u w small own = elim (cases_eq (bit_and u w) 0) [
  | inl e ↦ rw (eq-eqb (bit_and u w) 0 e) (any_none (has s) (64 * n) w 0 64 (λ i a l on'.
      own i (omega arith) ∙ ne_eqb (bit_at u i) 1 (λ f. absurd (let both = bit_at_and u w i in let none : bit_at (bit_and u w) i ≡ 0 = ap (λ z. bit_at z i) e ∙ bit_at-zero i in omega arith))))
  | inr ne ↦
      let lowest = bit_at-trailing_zeros w64 (bit_and u w) (omega arith) (let le = and_le_l u w in omega arith) in
      let t = trailing_zeros w64 (bit_and u w) in
      let both = bit_at_and u w t in
      rw (ne_eqb (bit_and u w) 0 ne)
      (any_one (has s) (64 * n) w 0 64 t (omega arith) (omega (arith, lowest.0)) (let e = lowest.1 in omega arith) (own t lowest.0 ∙ eq-eqb (bit_at u t) 1 (let e = lowest.1 in omega arith)))
]

pub any-append : (p : ℕ → Bool) (xs ys : List ℕ) → list_any p (xs ++ ys) ≡ (list_any p xs || list_any p ys)
any-append p xs ys = list_any-append p xs ys

any_from : (s t : List ℕ) → list_any (has s) t ≡ true → (q : ℕ) × (has t q ≡ true) × (has s q ≡ true)
any_from s [] h = absurd (both_ways false refl h)
any_from s (x ∷ t) h = elim (or_cases (has s x) (list_any (has s) t) h) [
  | inl here ↦ (x, rw (eq-eqb x x refl) refl, here)
  | inr later ↦ let rest = any_from s t later in (rest.0, or_right (eqb x rest.0) _ rest.1, rest.2)
]

any_to : (s t : List ℕ) (q : ℕ) → has t q ≡ true → has s q ≡ true → list_any (has s) t ≡ true
any_to s [] q h g = absurd (both_ways false refl h)
any_to s (x ∷ t) q h g = elim (or_cases (eqb x q) (has t q) h) [
  | inl e ↦ let same = eqb-true x q e in rw (ap (has s) same ∙ g) refl
  | inr later ↦ or_right (has s x) _ (any_to s t q later g)
]

pub any_turned : (s t : List ℕ) → list_any (has s) t ≡ list_any (has t) s
any_turned s t = both (list_any (has s) t) (list_any (has t) s)
    (λ h. let q = any_from s t h in any_to t s q.0 q.2 q.1)
    (λ h. let q = any_from t s h in any_to s t q.0 q.2 q.1)
  where
    both : (a b : Bool) → (a ≡ true → b ≡ true) → (b ≡ true → a ≡ true) → a ≡ b
    both true b there back = sym (there refl)
    both false true there back = back refl
    both false false there back = refl

-- two sets joined either way round
pub plus_turned : (s t : List ℕ) → IsRising s → IsRising t → plus t s ≡ plus s t
plus_turned s t rs rt = plus_by s (plus t s) t rs (rising-plus t s rt) (λ q. has-plus t s q ∙ turned (has s q) (has t q))
  where
    turned : (a b : Bool) → (a || b) ≡ (b || a)
    turned true true = refl
    turned true false = refl
    turned false true = refl
    turned false false = refl

pub put_nothing : (s : List ℕ) (n w : ℕ) → w ≡ 0 → s ≡ plus s (bits_of (64 * n) w)
put_nothing s n w e = sym (ap (plus s) (ap (bits_of (64 * n)) e ∙ bits_zero (64 * n)))

-- one word less to look at
pub any_row : (p : ℕ → Bool) (words : List ℕ) (n : ℕ) → n < length words
    → list_any p (row_of (64 * n) (drop n words)) ≡ (list_any p (bits_of (64 * n) (get_or words n 0)) || list_any p (row_of (64 * (n + 1)) (drop (n + 1) words)))
any_row p words n lt = ap (list_any p) (row_split words n lt) ∙ any-append p (bits_of (64 * n) (get_or words n 0)) (row_of (64 * (n + 1)) (drop (n + 1) words))

-- the word of a place, as the facts that it has
pub word_facts : (words : List ℕ) (n b : ℕ) → b < 64 → has (row_of 0 words) (64 * n + b) ≡ eqb (bit_at (get_or words n 0) b) 1
word_facts words n b low =
    let word : (64 * n + b) / 64 ≡ n = omega arith in
    let bit : (64 * n + b) % 64 ≡ b = omega arith in
    has_row_zero words (64 * n + b) ∙ rw (word, bit) refl

pub any_of_none : (xs : List ℕ) → list_any (has []) xs ≡ false
any_of_none [] = refl
any_of_none (x ∷ xs) = any_of_none xs

-- whether plain words have a fact of a word
pub word_test : (words : List ℕ) (n u w : ℕ) → u ≡ get_or words n 0 → u < 2 ^ 64 → list_any (has (row_of 0 words)) (bits_of (64 * n) w) ≡ not (eqb (bit_and u w) 0)
word_test words n u w is small = any_word (row_of 0 words) n u w small (λ b low. word_facts words n b low ∙ ap (λ z. eqb (bit_at z b) 1) (sym is))

-- ---- sets within others

all_one : (p : ℕ → Bool) (base w b k : ℕ) → ((i : ℕ) → b ≤ i → i < b + k → bit_at w i ≡ 1 → p (base + i) ≡ true) → list_all p (bits_from base w b k) ≡ true
unfolding bits_from
all_one p base w b zero h = refl
all_one p base w b (suc k) h =
    let later = all_one p base w (b + 1) k (λ i a l e. h i (omega arith) (omega arith) e) in
    elim (cases_eq (bit_at w b) 1) [
      | inl e ↦ rw (eq-eqb (bit_at w b) 1 e) (rw (h b (omega arith) (omega arith) e) later)
      | inr ne ↦ rw (ne_eqb (bit_at w b) 1 ne) later
    ]

pub and_none : (a : Bool) → (a && false) ≡ false
and_none true = refl
and_none false = refl

all_none : (p : ℕ → Bool) (base w b k i : ℕ) → b ≤ i → i < b + k → bit_at w i ≡ 1 → p (base + i) ≡ false → list_all p (bits_from base w b k) ≡ false
unfolding bits_from
all_none p base w b zero i low high e t = absurd (omega arith)
all_none p base w b (suc k) i low high e t = elim (cases_eq b i) [
  | inl same ↦
      let on' : bit_at w b ≡ 1 = ap (bit_at w) same ∙ e in
      let here : p (base + b) ≡ false = ap (λ z. p (base + z)) same ∙ t in
      rw (eq-eqb (bit_at w b) 1 on') (rw here refl)
  | inr ne ↦
      let later = all_none p base w (b + 1) k i (omega arith) (omega arith) e t in
      elim (cases_eq (bit_at w b) 1) [
        | inl here ↦ rw (eq-eqb (bit_at w b) 1 here) (ap (λ z. p (base + b) && z) later ∙ and_none (p (base + b)))
        | inr off ↦ rw (ne_eqb (bit_at w b) 1 off) later
      ]
]

-- whether a set has all facts of a word: by the set's own word
pub all_word : (s : List ℕ) (n u w : ℕ) → u < 2 ^ 64 → ((b : ℕ) → b < 64 → has s (64 * n + b) ≡ eqb (bit_at u b) 1) → list_all (has s) (bits_of (64 * n) w) ≡ eqb (bit_and (bit_not w64 u) w) 0
unfolding bits_of
all_word s n u w small own =
    let rest : ℕ = bit_not w64 u in
    elim (cases_eq (bit_and rest w) 0) [
      | inl e ↦ rw (eq-eqb (bit_and rest w) 0 e) (all_one (has s) (64 * n) w 0 64 (λ i a l on'.
          own i (omega arith) ∙ eq-eqb (bit_at u i) 1 (let both = bit_at_and rest w i in let off = bit_at_not w64 u i small (omega arith) in let none : bit_at (bit_and rest w) i ≡ 0 = ap (λ z. bit_at z i) e ∙ bit_at-zero i in omega arith)))
      | inr ne ↦
          let lowest = bit_at-trailing_zeros w64 (bit_and rest w) (omega arith) (let le = and_le_l rest w in omega arith) in
          let t = trailing_zeros w64 (bit_and rest w) in
          let both = bit_at_and rest w t in
          let off = bit_at_not w64 u t small lowest.0 in
          let e = lowest.1 in
          rw (ne_eqb (bit_and rest w) 0 ne)
          (all_none (has s) (64 * n) w 0 64 t (omega arith) (omega (arith, lowest.0)) (omega arith) (own t lowest.0 ∙ ne_eqb (bit_at u t) 1 (λ f. absurd (omega arith))))
    ]

all-append : (p : ℕ → Bool) (xs ys : List ℕ) → list_all p (xs ++ ys) ≡ (list_all p xs && list_all p ys)
all-append p [] ys = refl
all-append p (x ∷ xs) ys = ap (λ z. p x && z) (all-append p xs ys) ∙ grouped (p x) (list_all p xs) (list_all p ys)
  where
    grouped : (a b c : Bool) → (a && (b && c)) ≡ ((a && b) && c)
    grouped true b c = refl
    grouped false b c = refl

pub all_row : (p : ℕ → Bool) (words : List ℕ) (n : ℕ) → n < length words
    → list_all p (row_of (64 * n) (drop n words)) ≡ (list_all p (bits_of (64 * n) (get_or words n 0)) && list_all p (row_of (64 * (n + 1)) (drop (n + 1) words)))
all_row p words n lt = ap (list_all p) (row_split words n lt) ∙ all-append p (bits_of (64 * n) (get_or words n 0)) (row_of (64 * (n + 1)) (drop (n + 1) words))

pub all_both : (p : ℕ → Bool) (xs ys : List ℕ) → list_all p (xs ++ ys) ≡ (list_all p xs && list_all p ys)
all_both = all-append

-- whether plain words have all facts of a word
pub all_test : (words : List ℕ) (n u w : ℕ) → u ≡ get_or words n 0 → u < 2 ^ 64 → list_all (has (row_of 0 words)) (bits_of (64 * n) w) ≡ eqb (bit_and (bit_not w64 u) w) 0
all_test words n u w is small = all_word (row_of 0 words) n u w small (λ b low. word_facts words n b low ∙ ap (λ z. eqb (bit_at z b) 1) (sym is))
