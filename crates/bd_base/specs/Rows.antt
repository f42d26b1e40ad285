-- An order stored as rows of words: row i holds the positions that i is before.
use Rattle.bd_base.specs.Bits.{row_of}
use Rattle.bd_base.specs.declared.spans.Span.{Span}
use Rattle.std.specs.List.{slice_range}
use Rattle.std.specs.Prelude.{ℕ, ◌+◌, ◌⊎◌, ◌<◌, ◌≤◌, max, List, [], ◌∷◌, ◌++◌, map}

-- the words of a row
abbrev pub words_at : List ℕ → Span → List ℕ
words_at words span = slice_range words span.start span.end

-- the pairs of i with the positions of a list
abbrev pub pairs_with : ℕ → List ℕ → List (ℕ × ℕ)
pairs_with i places = map (λ j. (i, j)) places

-- the pairs of the rows from row i on
abbrev pub pairs_of : List ℕ → ℕ → List Span → List (ℕ × ℕ)
pairs_of words i [] = []
pairs_of words i (span ∷ spans) = pairs_with i (row_of 0 (words_at words span)) ++ pairs_of words (i + 1) spans

-- each row lies in the first n words, and has at most 128
abbrev pub AreSpans : ℕ → List Span → Type 0
AreSpans n [] = Unit {0}
AreSpans n (span ∷ spans) = ((span.start ≤ span.end) × (span.end ≤ n) × (span.end ≤ span.start + 128)) × AreSpans n spans

-- rows that have words lie one behind another, from a word on
abbrev pub AreInTurn : ℕ → List Span → Type 0
AreInTurn from [] = Unit {0}
AreInTurn from (span ∷ spans) = (span.start < span.end → from ≤ span.start) × AreInTurn (max from span.end) spans

-- a row has no word in common with another: one of the two has none, or it ends where the other begins or before
abbrev pub IsApart : Span → Span → Type 0
IsApart span other = other.start < other.end → (other.end ≤ span.start) ⊎ (span.end ≤ other.start)
