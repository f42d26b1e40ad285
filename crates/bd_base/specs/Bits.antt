-- Positions that words of 64 bits hold.
use Rattle.std.specs.Int.{bit_at}
use Rattle.std.specs.Prelude.{ℕ, zero, suc, ◌+◌, cond, ◌==◌, List, [], ◌∷◌, ◌++◌}

-- the positions of those of a word's k bits from bit b on that are set, where bit 0 has the position base
unfoldable pub bits_from : ℕ → ℕ → ℕ → ℕ → List ℕ
bits_from base word b zero = []
bits_from base word b (suc k) = cond (bit_at word b == 1) ((base + b) ∷ bits_from base word (b + 1) k) (bits_from base word (b + 1) k)

-- the positions that a word holds
unfoldable pub bits_of : ℕ → ℕ → List ℕ
bits_of base word = bits_from base word 0 64

-- the positions that words in a row hold, where the first word begins at the position base
abbrev pub row_of : ℕ → List ℕ → List ℕ
row_of base [] = []
row_of base (word ∷ words) = bits_of base word ++ row_of (base + 64) words

-- the k positions from a on
abbrev pub upto : ℕ → ℕ → List ℕ
upto a zero = []
upto a (suc k) = a ∷ upto (a + 1) k
