use Rattle.std.proofs.Common.{◌≡◌, drop}
use Rattle.bd_base.specs.Cells.{cells_of}
use Rattle.bd_base.specs.Facts.{plus}
use Rattle.bd_base.proofs.facts.FactSet.with_cells.Given as goal

abbrev pub invariant-loop-cell : goal.invariant-loop-cell
invariant-loop-cell l = plus l.set (cells_of (drop l.cell-index l.cells)) ≡ plus l.self (cells_of l.cells)
