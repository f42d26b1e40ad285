-- Rows that are cut behind their last position, and rows without words at both ends.
use Rattle.std.proofs.Common.{◌≡◌, ℕ, zero, suc, ◌+◌, ◌-◌, ◌<◌, ◌≤◌, max, List, [], ◌∷◌, ◌++◌, length, get_or, take, drop, set, refl, sym, ap, ◌∙◌, arith}
use Rattle.bd_base.specs.Bits.{row_of}
use Rattle.bd_base.specs.Rows.{words_at, pairs_with, pairs_of, AreSpans, AreInTurn}
use Rattle.bd_base.specs.declared.spans.Span.{Span}
use Rattle.bd_base.proofs.RowLemmas.{append-none, pairs_of-push}

turn_lower : (from low : ℕ) (spans : List Span) → low ≤ from → AreInTurn from spans → AreInTurn low spans
turn_lower from low [] le t = tt
turn_lower from low (s ∷ spans) le t =
    (λ some. let z = t.0 some in omega (arith, z, le), turn_lower (max from s.end) (max low s.end) spans (omega (arith, le)) t.1)

-- a row in place of one that has the same positions, begins where it began and doesn't end behind it
pub pairs_shortened : (words : List ℕ) (i : ℕ) (spans : List Span) (k : ℕ) (d s : Span) → row_of 0 (words_at words s) ≡ row_of 0 (words_at words (get_or spans k d)) → pairs_of words i (set spans k s) ≡ pairs_of words i spans
pairs_shortened words i [] k d s e = refl
pairs_shortened words i (x ∷ spans) zero d s e = ap (λ z. pairs_with i z ++ pairs_of words (i + 1) spans) e
pairs_shortened words i (x ∷ spans) (suc k) d s e = ap (λ z. pairs_with i (row_of 0 (words_at words x)) ++ z) (pairs_shortened words (i + 1) spans k d s e)

pub fits_shortened : (n : ℕ) (spans : List Span) (k : ℕ) (s : Span) → (s.start ≤ s.end) × (s.end ≤ n) × (s.end ≤ s.start + 128) → AreSpans n spans → AreSpans n (set spans k s)
fits_shortened n [] k s fit fits = tt
fits_shortened n (x ∷ spans) zero s fit fits = (fit, fits.1)
fits_shortened n (x ∷ spans) (suc k) s fit fits = (fits.0, fits_shortened n spans k s fit fits.1)

pub turn_shortened : (from : ℕ) (spans : List Span) (k : ℕ) (d s : Span) → s.start ≡ (get_or spans k d).start → s.end ≤ (get_or spans k d).end → AreInTurn from spans → AreInTurn from (set spans k s)
turn_shortened from [] k d s e le t = tt
turn_shortened from (x ∷ spans) zero d s e le t =
    (λ some. let z = t.0 (omega (arith, some, e, le)) in omega (arith, z, e), turn_lower (max from x.end) (max from s.end) spans (omega (arith, le)) t.1)
turn_shortened from (x ∷ spans) (suc k) d s e le t = (t.0, turn_shortened (max from x.end) spans k d s e le t.1)

-- a row without words, as the last one and as the first
no_words : (words : List ℕ) (s : Span) → s.end ≤ s.start → words_at words s ≡ []
no_words words s le = let e : s.end - s.start ≡ 0 = omega arith in ap (λ z. take z (drop s.start words)) e

pub pairs_without_last : (words : List ℕ) (i : ℕ) (spans : List Span) (s : Span) → s.end ≤ s.start → pairs_of words i (spans ++ s ∷ []) ≡ pairs_of words i spans
pairs_without_last words i spans s le =
    pairs_of-push words i spans s
    ∙ ap (λ (z : List ℕ). pairs_of words i spans ++ pairs_with (i + length spans) (row_of 0 z)) (no_words words s le)
    ∙ append-none (pairs_of words i spans)

pub fits_without_last : (n : ℕ) (spans : List Span) (s : Span) → AreSpans n (spans ++ s ∷ []) → AreSpans n spans
fits_without_last n [] s fits = tt
fits_without_last n (x ∷ spans) s fits = (fits.0, fits_without_last n spans s fits.1)

pub turn_without_last : (from : ℕ) (spans : List Span) (s : Span) → AreInTurn from (spans ++ s ∷ []) → AreInTurn from spans
turn_without_last from [] s t = tt
turn_without_last from (x ∷ spans) s t = (t.0, turn_without_last (max from x.end) spans s t.1)

pub pairs_without_first : (words : List ℕ) (i : ℕ) (s : Span) (spans : List Span) → s.end ≤ s.start → pairs_of words i (s ∷ spans) ≡ pairs_of words (i + 1) spans
pairs_without_first words i s spans le = ap (λ (z : List ℕ). pairs_with i (row_of 0 z) ++ pairs_of words (i + 1) spans) (no_words words s le)

pub turn_without_first : (s : Span) (spans : List Span) → AreInTurn 0 (s ∷ spans) → AreInTurn 0 spans
turn_without_first s spans t = turn_lower (max 0 s.end) 0 spans (omega arith) t.1

-- a first part of a first part
pub take_less : (m n : ℕ) (xs : List ℕ) → m ≤ n → take m (take n xs) ≡ take m xs
take_less zero n xs le = refl
take_less (suc m) zero xs le = absurd (omega arith)
take_less (suc m) (suc n) [] le = refl
take_less (suc m) (suc n) (x ∷ xs) le = ap (λ z. x ∷ z) (take_less m n xs (omega arith))

pub head_is : (spans : List Span) (s : Span) → 0 < length spans → s ≡ get_or spans 0 s → spans ≡ s ∷ drop 1 spans
head_is [] s some e = absurd (omega arith)
head_is (x ∷ spans) s some e = ap (λ z. z ∷ spans) (sym e)
