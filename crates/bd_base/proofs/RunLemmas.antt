-- Words that hold a run of positions, and rows that make a total order.
use Rattle.std.proofs.Common.{◌≡◌, ◌↔◌, ℕ, zero, suc, ◌+◌, ◌-◌, ◌*◌, ◌/◌, ◌%◌, ◌^◌, ◌<◌, ◌≤◌, min, max, Bool, true, false, not, eqb, ltb, leb, List, [], ◌∷◌, ◌++◌, length, get_or, refl, sym, ap, ◌∙◌, subst, inl, inr, arith}
use Rattle.std.specs.Int.{bit_at}
use Rattle.std.specs.List.{list_any, list_all}
use Rattle.std.specs.Prelude.{bit_and}
use Rattle.std.proofs.lemmas.Bool.{cases_eq, cases_lt, eq-eqb, ne_eqb, or_right, both_ways, leb-true, le-leb, lt-ltb, le-ltb, eqb-true}
use Rattle.std.proofs.lemmas.Nat.Bits.{same_from_bits_below}
use Rattle.bd_base.specs.Bits.{bits_of, row_of, upto}
use Rattle.bd_base.specs.Facts.{has, minus, remove_fact}
use Rattle.bd_base.specs.Pairs.{after_of, before_each, in_turn, total_order}
use Rattle.bd_base.specs.Rows.{words_at, pairs_with, pairs_of}
use Rattle.bd_base.specs.declared.spans.Span.{Span}
use Rattle.bd_base.proofs.BitLemmas.{has_bits_at}
use Rattle.bd_base.proofs.FactLemmas.{remove_absent}
use Rattle.bd_base.proofs.SetLemmas.{any_word, clear_single}
use Rattle.bd_base.proofs.WordLemmas.{has_row_zero, append-nil, row_end}
use Rattle.bd_base.proofs.RowLemmas.{append-none, after-append, after-with_same, after-with_other, after-below, after-at, after-past, with_upto}

pub has_upto_below : (a k q : ℕ) → q < a → has (upto a k) q ≡ false
has_upto_below a zero q lt = refl
has_upto_below a (suc k) q lt = rw (ne_eqb a q (omega arith)) (has_upto_below (a + 1) k q (omega arith))

pub has_upto_above : (a k q : ℕ) → a + k ≤ q → has (upto a k) q ≡ false
has_upto_above a zero q le = refl
has_upto_above a (suc k) q le = rw (ne_eqb a q (omega arith)) (has_upto_above (a + 1) k q (omega arith))

pub has_upto_in : (a k q : ℕ) → a ≤ q → q < a + k → has (upto a k) q ≡ true
has_upto_in a zero q low high = absurd (omega arith)
has_upto_in a (suc k) q low high = elim (cases_eq a q) [
  | inl e ↦ rw (eq-eqb a q e) refl
  | inr ne ↦ or_right _ _ (has_upto_in (a + 1) k q (omega arith) (omega arith))
]

-- a run without its first position
pub run_without : (s : List ℕ) (i n : ℕ) → i + 1 < n → s ≡ upto (i + 1) (n - (i + 1))
    → minus s (bits_of (64 * ((i + 1) / 64)) (1 * 2 ^ ((i + 1) % 64) % 2 ^ 64)) ≡ upto (min n (i + 1 + 1)) (n - min n (i + 1 + 1))
run_without s i n lt is =
    let many : n - (i + 1) ≡ suc (n - (i + 1 + 1)) = omega arith in
    let next : min n (i + 1 + 1) ≡ i + 1 + 1 = omega arith in
    clear_single s (i + 1) ∙ ap (remove_fact (i + 1)) (is ∙ ap (upto (i + 1)) many) ∙ rw (eq-eqb (i + 1) (i + 1) refl)
    (remove_absent (upto (i + 1 + 1) (n - (i + 1 + 1))) (i + 1) (has_upto_below (i + 1 + 1) (n - (i + 1 + 1)) (i + 1) (omega arith)) ∙ sym (ap (λ z. upto z (n - z)) next))

-- the part of a run that one word holds
run_part : (base from to i : ℕ) → i < 64 → from ≤ to
    → has (upto (max base from) (min (base + 64) to - max base from)) (base + i) ≡ has (upto from (to - from)) (base + i)
run_part base from to i low order = elim (cases_lt (base + i) from) [
  | inl l ↦ has_upto_below (max base from) (min (base + 64) to - max base from) (base + i) (omega arith) ∙ sym (has_upto_below from (to - from) (base + i) l)
  | inr g ↦ elim (cases_lt (base + i) to) [
    | inl l ↦ has_upto_in (max base from) (min (base + 64) to - max base from) (base + i) (omega arith) (omega arith) ∙ sym (has_upto_in from (to - from) (base + i) g (omega arith))
    | inr h ↦ has_upto_above (max base from) (min (base + 64) to - max base from) (base + i) (omega arith) ∙ sym (has_upto_above from (to - from) (base + i) (omega arith))
  ]
]

same_bit : (v w i : ℕ) → eqb (bit_at v i) 1 ≡ eqb (bit_at w i) 1 → bit_at v i ≡ bit_at w i
same_bit v w i e = elim (cases_eq (bit_at v i) 1) [
  | inl on ↦ on ∙ sym (eqb-true (bit_at w i) 1 (sym e ∙ eq-eqb (bit_at v i) 1 on))
  | inr off ↦ elim (cases_eq (bit_at w i) 1) [
    | inl on ↦ absurd (off (eqb-true (bit_at v i) 1 (e ∙ eq-eqb (bit_at w i) 1 on)))
    | inr none ↦ omega arith
  ]
]

pub run_word_is : (words : List ℕ) (k r from to : ℕ) → from ≤ to → get_or words k 0 < 2 ^ 64 → r < 2 ^ 64
    → row_of 0 words ≡ upto from (to - from)
    → bits_of (64 * k) r ≡ upto (max (64 * k) from) (min (64 * k + 64) to - max (64 * k) from)
    → get_or words k 0 ≡ r
unfolding bits_of
run_word_is words k r from to order small fits whole part =
    same_from_bits_below 64 (get_or words k 0) r small fits (λ i l.
    let word : (64 * k + i) / 64 ≡ k = omega arith in
    let bit : (64 * k + i) % 64 ≡ i = omega arith in
    let here : has (row_of 0 words) (64 * k + i) ≡ eqb (bit_at (get_or words k 0) i) 1 = has_row_zero words (64 * k + i) ∙ rw (word, bit) refl in
    let there : has (bits_of (64 * k) r) (64 * k + i) ≡ eqb (bit_at r i) 1 = has_bits_at (64 * k) r 0 64 i (omega arith) (omega arith) in
    same_bit (get_or words k 0) r i
    (sym here ∙ ap (λ (z : List ℕ). has z (64 * k + i)) whole ∙ sym (run_part (64 * k) from to i l order) ∙ ap (λ (z : List ℕ). has z (64 * k + i)) (sym part) ∙ there))

-- the positions of a word that are above another
above_each : (at : ℕ) (xs : List ℕ) → list_all (ltb at) xs ≡ not (list_any (has (upto 0 (at + 1))) xs)
above_each at [] = refl
above_each at (x ∷ xs) = elim (cases_lt at x) [
  | inl lt ↦ rw (lt-ltb at x lt, has_upto_above 0 (at + 1) x (omega arith)) (above_each at xs)
  | inr ge ↦ rw (le-ltb at x ge, has_upto_in 0 (at + 1) x (omega arith) (omega arith)) refl
]

pub above_word : (at n u w : ℕ) → u < 2 ^ 64 → bits_of (64 * n) u ≡ upto (max (64 * n) 0) (min (64 * n + 64) (at + 1) - max (64 * n) 0)
    → list_all (ltb at) (bits_of (64 * n) w) ≡ eqb (bit_and u w) 0
unfolding bits_of
above_word at n u w small part =
    let all : at + 1 - 0 ≡ at + 1 = omega arith in
    above_each at (bits_of (64 * n) w) ∙ ap not (any_word (upto 0 (at + 1)) n u w small (λ b low.
    ap (λ z. has (upto 0 z) (64 * n + b)) (sym all) ∙ sym (run_part (64 * n) 0 (at + 1) b low (omega arith))
    ∙ ap (λ (z : List ℕ). has z (64 * n + b)) (sym part) ∙ has_bits_at (64 * n) u 0 64 b (omega arith) (omega arith)))
    ∙ twice (eqb (bit_and u w) 0)
  where
    twice : (a : Bool) → not (not a) ≡ a
    twice true = refl
    twice false = refl

-- the words hold a run up to their end
pub run_all : (words : List ℕ) (from to : ℕ) → from ≤ to → (from ≡ to → ⊥) → row_of 0 words ≡ upto from (min (64 * length words) to - from)
    → (leb to (64 * length words) ≡ true) ↔ (row_of 0 words ≡ upto from (to - from))
run_all words from to order some made = (
  λ e. let le = leb-true to (64 * length words) e in made ∙ ap (upto from) (let n : min (64 * length words) to - from ≡ to - from = omega arith in n),
  λ e. elim (cases_lt (64 * length words) to) [
    | inl lt ↦ absurd (both_ways false refl
        (sym (row_end words (to - 1) (omega arith)) ∙ ap (λ (z : List ℕ). has z (to - 1)) e ∙ has_upto_in from (to - from) (to - 1) (omega arith) (omega arith)))
    | inr ge ↦ le-leb to (64 * length words) ge
  ],
)

-- ---- rows

-- the pairs of k rows from row i on
abbrev gathered : (ℕ → List ℕ) → ℕ → ℕ → List (ℕ × ℕ)
gathered row i zero = []
gathered row i (suc k) = pairs_with i (row i) ++ gathered row (i + 1) k

gathered_same : (f g : ℕ → List ℕ) (i k : ℕ) → ((j : ℕ) → i ≤ j → j < i + k → f j ≡ g j) → gathered f i k ≡ gathered g i k
gathered_same f g i zero h = refl
gathered_same f g i (suc k) h = rw (h i (omega arith) (omega arith), gathered_same f g (i + 1) k (λ j p q. h j (omega arith) (omega arith))) refl

gathered_none : (f : ℕ → List ℕ) (i k : ℕ) → ((j : ℕ) → i ≤ j → j < i + k → f j ≡ []) → gathered f i k ≡ []
gathered_none f i zero h = refl
gathered_none f i (suc k) h = rw (h i (omega arith) (omega arith)) (gathered_none f (i + 1) k (λ j p q. h j (omega arith) (omega arith)))

gathered_split : (f : ℕ → List ℕ) (i k m n : ℕ) → n ≡ k + m → gathered f i n ≡ gathered f i k ++ gathered f (i + k) m
gathered_split f i zero m n e = let a : n ≡ m = omega arith in let b : i + zero ≡ i = omega arith in rw (a, b) refl
gathered_split f i (suc k) m zero e = absurd (omega arith)
gathered_split f i (suc k) m (suc n) e =
    let a : i + suc k ≡ i + 1 + k = omega arith in
    rw a (ap (λ z. pairs_with i (f i) ++ z) (gathered_split f (i + 1) k m n (omega arith)) ∙ sym (Rattle.std.proofs.Common.append_assoc (pairs_with i (f i)) (gathered f (i + 1) k) _))

-- row i of the total order of n positions
abbrev pub total_row : ℕ → ℕ → List ℕ
total_row n i = upto (min n (i + 1)) (n - min n (i + 1))

turn_gathered : (i k n : ℕ) → i + k ≡ n → in_turn i k ≡ gathered (total_row n) i k
turn_gathered i zero n e = refl
turn_gathered i (suc k) n e =
    let from : min n (i + 1) ≡ i + 1 = omega arith in
    let many : n - (i + 1) ≡ k = omega arith in
    rw (from, many, with_upto i (i + 1) k) (ap (λ z. before_each i (i + 1) k ++ z) (turn_gathered (i + 1) k n (omega arith)))

rows_gathered : (words : List ℕ) (f : ℕ → List ℕ) (first : ℕ) (spans : List Span) (d : Span) → ((k : ℕ) → k < length spans → f (first + k) ≡ row_of 0 (words_at words (get_or spans k d)))
    → pairs_of words first spans ≡ gathered f first (length spans)
rows_gathered words f first [] d h = refl
rows_gathered words f first (s ∷ spans) d h =
    let at : first + 0 ≡ first = omega arith in
    let here : f first ≡ row_of 0 (words_at words s) = subst (λ z. f z ≡ row_of 0 (words_at words s)) at (h 0 (omega arith)) in
    rw (here, rows_gathered words f (first + 1) spans d (λ k lt. let e : first + 1 + k ≡ first + suc k = omega arith in ap f e ∙ h (suc k) (omega arith))) refl

-- rows that are those of the total order are the total order
pub total_from_rows : (words : List ℕ) (first n rows : ℕ) (spans : List Span) → n ≤ rows → first + length spans ≤ rows
    → ((k : ℕ) → k < rows → after_of (pairs_of words first spans) k ≡ total_row n k) → pairs_of words first spans ≡ total_order n
total_from_rows words first n rows spans below stored each =
    let order = pairs_of words first spans in
    let f : ℕ → List ℕ = after_of order in
    let len = length spans in
    let d : Span = record { start = 0; end = 0 } in
    let before = gathered_none f 0 first (λ j p q. after-below words first j spans (omega arith)) in
    let past = gathered_none f (first + len) (rows - (first + len)) (λ j p q. let e : first + (j - first) ≡ j = omega arith in ap f (sym e) ∙ after-past words first (j - first) spans (omega arith)) in
    let mine : order ≡ gathered f first len = rows_gathered words f first spans d (λ k lt. after-at words first k spans d lt) in
    let whole : gathered f 0 rows ≡ order =
    gathered_split f 0 first (rows - first) rows (omega arith)
    ∙ rw (before, (let z : 0 + first ≡ first = omega arith in z))
    (gathered_split f first len (rows - (first + len)) (rows - first) (omega arith) ∙ rw (past, ← mine) (append-none order)) in
    let beyond = gathered_none (total_row n) n (rows - n) (λ j p q. let z : n - min n (j + 1) ≡ 0 = omega arith in ap (upto (min n (j + 1))) z) in
    let total : gathered (total_row n) 0 rows ≡ total_order n =
    gathered_split (total_row n) 0 n (rows - n) rows (omega arith)
    ∙ rw ((let z : 0 + n ≡ n = omega arith in z), beyond) (append-none (gathered (total_row n) 0 n) ∙ sym (turn_gathered 0 n n (omega arith))) in
    sym whole ∙ gathered_same f (total_row n) 0 rows (λ j p q. each j (omega arith)) ∙ total

-- the rows of the total order
after_gathered_below : (f : ℕ → List ℕ) (i k j : ℕ) → j < i → after_of (gathered f i k) j ≡ []
after_gathered_below f i zero j lt = refl
after_gathered_below f i (suc k) j lt =
    after-append (pairs_with i (f i)) (gathered f (i + 1) k) j ∙ rw (after-with_other i j (f i) (λ e. omega arith), after_gathered_below f (i + 1) k j (omega arith)) refl

after_gathered : (f : ℕ → List ℕ) (i k j : ℕ) → i ≤ j → j < i + k → after_of (gathered f i k) j ≡ f j
after_gathered f i zero j low high = absurd (omega arith)
after_gathered f i (suc k) j low high = elim (cases_eq i j) [
  | inl e ↦ after-append (pairs_with i (f i)) (gathered f (i + 1) k) j
      ∙ subst (λ z. after_of (pairs_with i (f i)) z ++ after_of (gathered f (i + 1) k) z ≡ f z) e
      (rw (after-with_same i (f i), after_gathered_below f (i + 1) k i (omega arith)) (append-nil (f i)))
  | inr ne ↦ after-append (pairs_with i (f i)) (gathered f (i + 1) k) j ∙ rw (after-with_other i j (f i) ne) (after_gathered f (i + 1) k j (omega arith) (omega arith))
]

after_gathered_past : (f : ℕ → List ℕ) (i k j : ℕ) → i + k ≤ j → after_of (gathered f i k) j ≡ []
after_gathered_past f i zero j le = refl
after_gathered_past f i (suc k) j le =
    after-append (pairs_with i (f i)) (gathered f (i + 1) k) j ∙ rw (after-with_other i j (f i) (λ e. omega arith), after_gathered_past f (i + 1) k j (omega arith)) refl

pub after_total : (n i : ℕ) → after_of (total_order n) i ≡ total_row n i
after_total n i =
    ap (λ (z : List (ℕ × ℕ)). after_of z i) (turn_gathered 0 n n (omega arith)) ∙ elim (cases_lt i n) [
      | inl lt ↦ after_gathered (total_row n) 0 n i (omega arith) (omega arith)
      | inr ge ↦ after_gathered_past (total_row n) 0 n i (omega arith) ∙ sym (ap (upto (min n (i + 1))) (let z : n - min n (i + 1) ≡ 0 = omega arith in z))
    ]

-- a total order of more positions than rows have is none of theirs
pub too_many : (words : List ℕ) (first n : ℕ) (spans : List Span) → first + length spans ≤ 8192 → 8193 < n → pairs_of words first spans ≡ total_order n → ⊥
too_many words first n spans few many e =
    let at : first + (8192 - first) ≡ 8192 = omega arith in
    let none : after_of (pairs_of words first spans) 8192 ≡ [] = ap (after_of (pairs_of words first spans)) (sym at) ∙ after-past words first (8192 - first) spans (omega arith) in
    let row : [] ≡ total_row n 8192 = sym none ∙ ap (λ (z : List (ℕ × ℕ)). after_of z 8192) e ∙ after_total n 8192 in
    both_ways false refl (ap (λ (z : List ℕ). has z 8193) row ∙ has_upto_in (min n (8192 + 1)) (n - min n (8192 + 1)) 8193 (omega arith) (omega arith))
