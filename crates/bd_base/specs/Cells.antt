-- Facts stored as words that aren't 0, each with its number: word n has the facts from 64 n on.
use Rattle.bd_base.specs.Bits.{bits_of}
use Rattle.bd_base.specs.declared.cells.Cell.{Cell}
use Rattle.std.specs.Prelude.{◌≡◌, ℕ, ◌+◌, ◌*◌, ◌<◌, ◌≤◌, ◌==◌, cond, List, [], ◌∷◌, ◌++◌, length}
use Rattle.std.specs.List.{slice_index_or}

-- the facts
abbrev pub cells_of : List Cell → List ℕ
cells_of [] = []
cells_of (cell ∷ cells) = bits_of (64 * cell.number) cell.word ++ cells_of cells

-- the word of a number, or 0
abbrev pub word_in : List Cell → ℕ → ℕ
word_in [] n = 0
word_in (cell ∷ cells) n = cond (cell.number == n) cell.word (word_in cells n)

-- the numbers rise, and are at least low and below high
abbrev pub AreCells : ℕ → ℕ → List Cell → Type 0
AreCells low high [] = Unit {0}
AreCells low high (cell ∷ cells) = (low ≤ cell.number) × (cell.number < high) × AreCells (cell.number + 1) high cells

-- the cell with the number is there
abbrev pub HasCell : ℕ → List Cell → ℕ → Type 0
HasCell number cells place = (place < length cells) × ((d : Cell) → (slice_index_or cells place d).number ≡ number)

-- the cells before the place have lower numbers, and the others higher
abbrev pub LacksCell : ℕ → List Cell → ℕ → Type 0
LacksCell number cells place =
    (place ≤ length cells)
    × ((k : ℕ) (d : Cell) → k < place → (slice_index_or cells k d).number < number)
    × ((k : ℕ) (d : Cell) → place ≤ k → k < length cells → number < (slice_index_or cells k d).number)
