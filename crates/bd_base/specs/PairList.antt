-- What the field of a list of pairs stands for.
use Rattle.bd_base.specs.declared.pairs.Form.{Form}
use Rattle.bd_base.specs.declared.pairs.Form.TheVariants.{Listed, InRows}
use Rattle.bd_base.specs.declared.pairs.Walk.{Walk}
use Rattle.bd_base.specs.declared.pairs.Walk.TheVariants as walk
use Rattle.std.specs.Prelude.{ℕ, List}

abbrev pub pairs_in : Form → List (ℕ × ℕ)
pairs_in (Listed pairs) = pairs.items
pairs_in (InRows rows) = rows

abbrev pub pairs_left : Walk → List (ℕ × ℕ)
pairs_left (walk.Listed pairs) = pairs.now
pairs_left (walk.InRows rows) = rows
