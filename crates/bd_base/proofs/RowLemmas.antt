-- Rows of words as lists of pairs.
use Rattle.std.proofs.Common.{◌≡◌, ℕ, zero, suc, ◌+◌, ◌-◌, ◌*◌, ◌<◌, ◌≤◌, Bool, true, false, cond, not, ◌&&◌, ◌||◌, eqb, ltb, ◌==◌, List, [], ◌∷◌, ◌++◌, length, get_or, take, drop, map, refl, sym, ap, ◌∙◌, subst, inl, inr, arith, add-one, append_assoc, drop-cons, length-append, length-take-le}
use Rattle.std.specs.List.{count_by, filter, list_all, slice_range}
use Rattle.std.proofs.lemmas.Bool.{eq-eqb, ne_eqb}
use Rattle.std.proofs.lemmas.List.{take-append-le, drop-append-le, length-map}
use Rattle.std.proofs.lemmas.List.Elements.{filter-append}
use Rattle.std.proofs.lemmas.List.Folds.{list_all-append}
use Rattle.std.proofs.lemmas.List.Sums.{length-filter}
use Rattle.std.proofs.lemmas.Grind.{take_at_read}
use Rattle.bd_base.specs.Bits.{row_of, upto}
use Rattle.bd_base.specs.Facts.{has, remove_fact}
use Rattle.bd_base.specs.Pairs.{after_of, is_before, before_each, have_rising_pairs, without_pair}
use Rattle.bd_base.specs.Rows.{words_at, pairs_with, pairs_of, AreSpans}
use Rattle.bd_base.specs.declared.spans.Span.{Span}

pub append-none : {X : Type 0} (xs : List X) → xs ++ [] ≡ xs
append-none [] = refl
append-none (x ∷ xs) = ap (λ z. x ∷ z) (append-none xs)

-- a row keeps its words where more come behind
range-grow : (words more : List ℕ) (s e : ℕ) → s ≤ e → e ≤ length words → slice_range (words ++ more) s e ≡ slice_range words s e
range-grow words more s e order fits = ap (take (e - s)) (drop-append-le s words more (omega arith)) ∙ take-append-le (e - s) (drop s words) more (let l = Rattle.std.proofs.Common.length-drop s words in omega arith)

pub pairs_of-grow : (words more : List ℕ) (i : ℕ) (spans : List Span) → AreSpans (length words) spans → pairs_of (words ++ more) i spans ≡ pairs_of words i spans
pairs_of-grow words more i [] fits = refl
pairs_of-grow words more i (span ∷ spans) fits =
    rw (range-grow words more span.start span.end fits.0.0 fits.0.1, pairs_of-grow words more (i + 1) spans fits.1) refl

pub AreSpans-grow : (n m : ℕ) (spans : List Span) → n ≤ m → AreSpans n spans → AreSpans m spans
AreSpans-grow n m [] le fits = tt
AreSpans-grow n m (span ∷ spans) le fits = let low : span.end ≤ n = fits.0.1 in ((fits.0.0, omega arith, fits.0.2), AreSpans-grow n m spans le fits.1)

pub AreSpans-push : (n : ℕ) (spans : List Span) (span : Span) → AreSpans n spans → (span.start ≤ span.end) × (span.end ≤ n) × (span.end ≤ span.start + 128) → AreSpans n (spans ++ span ∷ [])
AreSpans-push n [] span fits last = (last, tt)
AreSpans-push n (s ∷ spans) span fits last = (fits.0, AreSpans-push n spans span fits.1 last)

pub AreSpans-at : (n : ℕ) (spans : List Span) (k : ℕ) (d : Span) → AreSpans n spans → k < length spans → let s = get_or spans k d in (s.start ≤ s.end) × (s.end ≤ n) × (s.end ≤ s.start + 128)
AreSpans-at n [] k d fits lt = absurd (omega arith)
AreSpans-at n (s ∷ spans) zero d fits lt = fits.0
AreSpans-at n (s ∷ spans) (suc k) d fits lt = AreSpans-at n spans k d fits.1 (omega arith)

pub pairs_of-push : (words : List ℕ) (i : ℕ) (spans : List Span) (span : Span) → pairs_of words i (spans ++ span ∷ []) ≡ pairs_of words i spans ++ pairs_with (i + length spans) (row_of 0 (words_at words span))
pairs_of-push words i [] span = let e : i + 0 ≡ i = omega arith in rw e (append-none (pairs_with i (row_of 0 (words_at words span))))
pairs_of-push words i (s ∷ spans) span =
    let e : i + suc (length spans) ≡ i + 1 + length spans = omega arith in
    rw e (ap (λ z. pairs_with i (row_of 0 (words_at words s)) ++ z) (pairs_of-push words (i + 1) spans span) ∙ sym (append_assoc (pairs_with i (row_of 0 (words_at words s))) (pairs_of words (i + 1) spans) _))

-- the positions that one position is before
pub after-append : (ps qs : List (ℕ × ℕ)) (i : ℕ) → after_of (ps ++ qs) i ≡ after_of ps i ++ after_of qs i
after-append [] qs i = refl
after-append (p ∷ ps) qs i = elim (eqb (p.0) i) as (λ c. map {A = ℕ × ℕ} {B = ℕ} (λ p. p.1) (cond c (p ∷ filter (λ p. p.0 == i) (ps ++ qs)) (filter (λ p. p.0 == i) (ps ++ qs))) ≡ map {A = ℕ × ℕ} {B = ℕ} (λ p. p.1) (cond c (p ∷ filter (λ p. p.0 == i) ps) (filter (λ p. p.0 == i) ps)) ++ after_of qs i) [
  | true ↦ ap (λ z. p.1 ∷ z) (after-append ps qs i)
  | false ↦ after-append ps qs i
]

pub after-with_same : (i : ℕ) (js : List ℕ) → after_of (pairs_with i js) i ≡ js
after-with_same i [] = refl
after-with_same i (j ∷ js) = rw (eq-eqb i i refl) (ap (λ z. j ∷ z) (after-with_same i js))

pub after-with_other : (a i : ℕ) (js : List ℕ) → (a ≡ i → ⊥) → after_of (pairs_with a js) i ≡ []
after-with_other a i [] ne = refl
after-with_other a i (j ∷ js) ne = rw (ne_eqb a i ne) (after-with_other a i js ne)

pub after-below : (words : List ℕ) (first i : ℕ) (spans : List Span) → i < first → after_of (pairs_of words first spans) i ≡ []
after-below words first i [] lt = refl
after-below words first i (s ∷ spans) lt =
    after-append (pairs_with first (row_of 0 (words_at words s))) (pairs_of words (first + 1) spans) i
    ∙ rw (after-with_other first i (row_of 0 (words_at words s)) (λ e. omega arith), after-below words (first + 1) i spans (omega arith)) refl

pub after-at : (words : List ℕ) (first k : ℕ) (spans : List Span) (d : Span) → k < length spans → after_of (pairs_of words first spans) (first + k) ≡ row_of 0 (words_at words (get_or spans k d))
after-at words first k [] d lt = absurd (omega arith)
after-at words first zero (s ∷ spans) d lt =
    let e : first + 0 ≡ first = omega arith in
    rw e
    (after-append (pairs_with first (row_of 0 (words_at words s))) (pairs_of words (first + 1) spans) first
    ∙ rw (after-with_same first (row_of 0 (words_at words s)), after-below words (first + 1) first spans (omega arith)) (append-none (row_of 0 (words_at words s))))
after-at words first (suc k) (s ∷ spans) d lt =
    let e : first + suc k ≡ first + 1 + k = omega arith in
    rw e
    (after-append (pairs_with first (row_of 0 (words_at words s))) (pairs_of words (first + 1) spans) (first + 1 + k)
    ∙ rw (after-with_other first (first + 1 + k) (row_of 0 (words_at words s)) (λ e. omega arith)) (after-at words (first + 1) k spans d (omega arith)))

pub after-past : (words : List ℕ) (first k : ℕ) (spans : List Span) → length spans ≤ k → after_of (pairs_of words first spans) (first + k) ≡ []
after-past words first k [] le = refl
after-past words first zero (s ∷ spans) le = absurd (omega arith)
after-past words first (suc k) (s ∷ spans) le =
    let e : first + suc k ≡ first + 1 + k = omega arith in
    rw e
    (after-append (pairs_with first (row_of 0 (words_at words s))) (pairs_of words (first + 1) spans) (first + 1 + k)
    ∙ rw (after-with_other first (first + 1 + k) (row_of 0 (words_at words s)) (λ e. omega arith)) (after-past words (first + 1) k spans (omega arith)))

pub before_by_row : (order : List (ℕ × ℕ)) (i j : ℕ) → is_before order i j ≡ has (after_of order i) j
before_by_row [] i j = refl
before_by_row (p ∷ ps) i j = elim (eqb (p.0) i) as (λ c. ((c && eqb (p.1) j) || is_before ps i j) ≡ has (map {A = ℕ × ℕ} {B = ℕ} (λ p. p.1) (cond c (p ∷ filter (λ p. p.0 == i) ps) (filter (λ p. p.0 == i) ps))) j) [
  | true ↦ ap (λ z. eqb (p.1) j || z) (before_by_row ps i j)
  | false ↦ before_by_row ps i j
]

-- a row without words has no pairs
pub pairs_of-pass : (words : List ℕ) (i : ℕ) (spans : List Span) → pairs_of words i (spans ++ record { start = 0; end = 0 } ∷ []) ≡ pairs_of words i spans
pairs_of-pass words i spans = let none = pairs_of-push words i spans (record { start = 0; end = 0 }) in none ∙ append-none (pairs_of words i spans)

range-behind : (words more : List ℕ) → slice_range (words ++ more) (length words) (length words + length more) ≡ more
range-behind [] more = let e : 0 + length more - 0 ≡ length more = omega arith in rw e (whole more)
  where
    whole : (xs : List ℕ) → take (length xs) xs ≡ xs
    whole [] = refl
    whole (x ∷ xs) = ap (λ z. x ∷ z) (whole xs)
range-behind (w ∷ words) more =
    let e : suc (length words) + length more - suc (length words) ≡ length words + length more - length words = omega arith in
    rw e (range-behind words more)

-- a row behind all others
pub pairs_of-add : (words row : List ℕ) (i : ℕ) (spans : List Span) (end : ℕ) → AreSpans (length words) spans → end ≡ length words + length row
    → pairs_of (words ++ row) i (spans ++ record { start = length words; end = end } ∷ []) ≡ pairs_of words i spans ++ pairs_with (i + length spans) (row_of 0 row)
pairs_of-add words row i spans end fits e =
    pairs_of-push (words ++ row) i spans (record { start = length words; end = end })
    ∙ rw (pairs_of-grow words row i spans fits, e, range-behind words row) refl

-- what a look at a place of the rows says
module _ (words : List ℕ) (first i : ℕ) (spans seen : List Span) (same : seen ≡ spans) (low : first ≤ i) where
  place : first + (i - first) ≡ i
  place = omega arith

  pub after_none : length seen ≤ i - first → after_of (pairs_of words first spans) i ≡ []
  after_none past =
      subst (λ z. after_of (pairs_of words first spans) z ≡ []) place
      (after-past words first (i - first) spans (subst (λ z. length z ≤ i - first) same past))

  pub after_some : (span : Span) → i - first < length seen → span ≡ get_or seen (i - first) span → after_of (pairs_of words first spans) i ≡ row_of 0 (words_at words span)
  after_some span lt is =
      subst (λ z. after_of (pairs_of words first spans) z ≡ row_of 0 (words_at words span)) place
      (after-at words first (i - first) spans span (subst (λ z. i - first < length z) same lt)
      ∙ ap (λ (z : Span). row_of 0 (words_at words z)) (sym (is ∙ ap (λ (z : List Span). get_or z (i - first) span) same)))

pub span_fits : (n k : ℕ) (spans seen : List Span) (span : Span) → seen ≡ spans → AreSpans n spans → k < length seen → span ≡ get_or seen k span
    → (span.start ≤ span.end) × (span.end ≤ n) × (span.end ≤ span.start + 128)
span_fits n k spans seen span same fits lt is =
    subst (λ (z : Span). (z.start ≤ z.end) × (z.end ≤ n) × (z.end ≤ z.start + 128)) (sym is)
    (AreSpans-at n seen k span (subst (λ z. AreSpans n z) (sym same) fits) lt)

-- what a row put behind all others makes of the rows
module _ (words grown row : List ℕ) (spans : List Span) (is : grown ≡ words ++ row) (fits : AreSpans (length words) spans) where
  longer : length grown ≡ length words + length row
  longer = ap (λ (z : List ℕ). length z) is ∙ length-append words row

  pub fits_grown : AreSpans (length grown) spans
  fits_grown = AreSpans-grow (length words) (length grown) spans (omega (arith, longer)) fits

  module _ (more : List Span) (start end : ℕ) (pushed : more ≡ spans ++ record { start = start; end = end } ∷ []) (from : start ≡ length words) (to : end ≡ start + length row) where
    pub fits_added : length row ≤ 128 → AreSpans (length grown) more
    fits_added short = subst (λ (z : List Span). AreSpans (length grown) z) (sym pushed) (AreSpans-push (length grown) spans _ fits_grown (omega arith, omega (arith, longer), omega arith))

    pub pairs_added : (i at : ℕ) → at ≡ length spans → pairs_of grown i more ≡ pairs_of words i spans ++ pairs_with (i + at) (row_of 0 row)
    pairs_added i at place =
        rw (is, pushed, place, from) (pairs_of-add words row i spans end fits (to ∙ ap (λ z. z + length row) from))

-- how many pairs there are
pub length-with : (i : ℕ) (js : List ℕ) → length (pairs_with i js) ≡ length js
length-with i [] = refl
length-with i (j ∷ js) = ap suc (length-with i js)

pub count_row : (words : List ℕ) (first : ℕ) (spans : List Span) (span : Span) (n m : ℕ) → n ≡ length (pairs_of words first spans) → m ≡ length (row_of 0 (words_at words span))
    → n + m ≡ length (pairs_of words first (spans ++ span ∷ []))
count_row words first spans span n m whole part =
    let row = row_of 0 (words_at words span) in
    let split = ap (λ (z : List (ℕ × ℕ)). length z) (pairs_of-push words first spans span) ∙ length-append (pairs_of words first spans) (pairs_with (first + length spans) row) in
    omega (arith, split, length-with (first + length spans) row)

pub with_upto : (i a k : ℕ) → pairs_with i (upto a k) ≡ before_each i a k
with_upto i a zero = refl
with_upto i a (suc k) = ap (λ z. (i, a) ∷ z) (with_upto i (a + 1) k)

-- how many positions one is before
pub length-after : (order : List (ℕ × ℕ)) (i : ℕ) → length (after_of order i) ≡ count_by (λ p. p.0 == i) order
length-after order i = length-map (filter (λ p. p.0 == i) order) (λ p. p.1) ∙ length-filter (λ p. p.0 == i) order

-- one row less to look at
pub pairs_of-split : (words : List ℕ) (first k : ℕ) (spans : List Span) (d : Span) → k < length spans
    → pairs_of words (first + k) (drop k spans) ≡ pairs_with (first + k) (row_of 0 (words_at words (get_or spans k d))) ++ pairs_of words (first + (k + 1)) (drop (k + 1) spans)
pairs_of-split words first k spans d lt =
    let next : first + k + 1 ≡ first + (k + 1) = omega arith in
    let split : drop k spans ≡ get_or spans k d ∷ drop (k + 1) spans = rw add-one (drop-cons spans k d lt) in
    ap (pairs_of words (first + k)) split ∙ rw next refl

-- whether the pairs of a row rise
pub rising_with : (i : ℕ) (js : List ℕ) → have_rising_pairs (pairs_with i js) ≡ list_all (ltb i) js
rising_with i [] = refl
rising_with i (j ∷ js) = ap (λ z. ltb i j && z) (rising_with i js)

-- a row without a pair
pub without_same : (i j : ℕ) (js : List ℕ) → without_pair i j (pairs_with i js) ≡ pairs_with i (remove_fact j js)
without_same i j [] = refl
without_same i j (x ∷ js) = rw (eq-eqb i i refl) (elim (eqb x j) as (λ c. cond (not c) ((i, x) ∷ without_pair i j (pairs_with i js)) (without_pair i j (pairs_with i js)) ≡ pairs_with i (cond (not c) (x ∷ remove_fact j js) (remove_fact j js))) [
  | true ↦ without_same i j js
  | false ↦ ap (λ z. (i, x) ∷ z) (without_same i j js)
])

pub without_other : (at i j : ℕ) (js : List ℕ) → (at ≡ i → ⊥) → without_pair i j (pairs_with at js) ≡ pairs_with at js
without_other at i j [] ne = refl
without_other at i j (x ∷ js) ne = rw (ne_eqb at i ne) (ap (λ z. (at, x) ∷ z) (without_other at i j js ne))

-- what one row adds, where it is the one at a place
module _ (words row : List ℕ) (first k : ℕ) (spans : List Span) (d : Span) (lt : k < length spans) (is : row ≡ words_at words (get_or spans k d)) where
  pub rises_at : (above : Bool) → above ≡ list_all (ltb (first + k)) (row_of 0 row)
      → have_rising_pairs (pairs_of words (first + k) (drop k spans)) ≡ (above && have_rising_pairs (pairs_of words (first + (k + 1)) (drop (k + 1) spans)))
  rises_at above e =
      let later = pairs_of words (first + (k + 1)) (drop (k + 1) spans) in
      let here = pairs_with (first + k) (row_of 0 row) in
      ap have_rising_pairs (pairs_of-split words first k spans d lt ∙ ap (λ (z : List ℕ). pairs_with (first + k) (row_of 0 z) ++ later) (sym is))
      ∙ list_all-append (λ p. ltb p.0 p.1) here later ∙ ap (λ z. z && have_rising_pairs later) (rising_with (first + k) (row_of 0 row) ∙ sym e)

  pub without_at : (i j : ℕ) → without_pair i j (pairs_of words first (take k spans)) ++ without_pair i j (pairs_with (first + k) (row_of 0 row)) ≡ without_pair i j (pairs_of words first (take (k + 1) spans))
  without_at i j =
      let before = pairs_of words first (take k spans) in
      let place : length (take k spans) ≡ k = length-take-le k spans (omega arith) in
      sym (ap (λ (z : List Span). without_pair i j (pairs_of words first z)) (take_at_read spans k d lt).1
      ∙ ap (without_pair i j) (pairs_of-push words first (take k spans) (get_or spans k d) ∙ ap (λ z. before ++ pairs_with (first + z) (row_of 0 (words_at words (get_or spans k d)))) place
      ∙ ap (λ (z : List ℕ). before ++ pairs_with (first + k) (row_of 0 z)) (sym is))
      ∙ filter-append (λ p. not (p.0 == i && p.1 == j)) before (pairs_with (first + k) (row_of 0 row)))

-- the part of the words that one row has, as a loop through the rows sees it
module _ (words seen_words : List ℕ) (spans seen : List Span) (k : ℕ) (d : Span) (same_words : seen_words ≡ words) (same : seen ≡ spans) where
  pub seen_fits : AreSpans (length words) spans → k < length seen → let s = get_or seen k d in (s.start ≤ s.end) × (s.end ≤ length seen_words) × (s.end ≤ s.start + 128)
  seen_fits fits lt =
      let at = AreSpans-at (length words) seen k d (subst (λ (z : List Span). AreSpans (length words) z) (sym same) fits) lt in
      (at.0, omega (arith, at.1, ap (λ (z : List ℕ). length z) same_words), at.2)

  pub seen_part : (row : List ℕ) → row ≡ words_at seen_words (get_or seen k d) → row ≡ words_at words (get_or spans k d)
  seen_part row is = is ∙ ap (λ (z : List ℕ). words_at z (get_or seen k d)) same_words ∙ ap (λ (z : List Span). words_at words (get_or z k d)) same
