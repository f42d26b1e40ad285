use Rattle.std.proofs.Common.{◌≡◌, drop}
use Rattle.std.specs.List.{list_any}
use Rattle.bd_base.specs.Bits.{row_of}
use Rattle.bd_base.specs.Cells.{cells_of}
use Rattle.bd_base.specs.Facts.{has}
use Rattle.bd_base.proofs.cells.cells_meet.Given as goal

abbrev pub invariant-loop-cell : goal.invariant-loop-cell
invariant-loop-cell l = list_any (has (row_of 0 l.words)) (cells_of (drop l.cell-index l.cells)) ≡ list_any (has (row_of 0 l.words)) (cells_of l.cells)
