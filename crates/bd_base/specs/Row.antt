-- What the fields of a row and of a walk through it stand for.
use Rattle.bd_base.specs.Bits.{row_of}
use Rattle.bd_base.specs.Pairs.{after_of}
use Rattle.bd_base.specs.declared.row.Form.{Form}
use Rattle.bd_base.specs.declared.row.Form.TheVariants.{Words, Listed}
use Rattle.bd_base.specs.declared.row.Walk.{Walk}
use Rattle.bd_base.specs.declared.row.Walk.TheVariants as walk
use Rattle.std.specs.Prelude.{ℕ, ◌≤◌, ◌^◌, List, length}

abbrev pub places_in : Form → List ℕ
places_in (Words words) = row_of 0 words.now
places_in (Listed pairs i) = after_of pairs.now i

-- no position has a number that doesn't fit
abbrev pub IsRow : Form → Type 0
IsRow (Words words) = length words.now ≤ 2 ^ 26
IsRow (Listed pairs i) = Unit {0}

abbrev pub places_left : Walk → List ℕ
places_left (walk.Words places) = places
places_left (walk.Listed pairs i) = after_of pairs.now i
