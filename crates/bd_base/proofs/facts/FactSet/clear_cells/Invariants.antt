use Rattle.std.proofs.Common.{◌≡◌, drop}
use Rattle.bd_base.specs.Cells.{cells_of}
use Rattle.bd_base.specs.Facts.{minus}
use Rattle.bd_base.proofs.facts.FactSet.clear_cells.Given as goal

abbrev pub invariant-loop-cell : goal.invariant-loop-cell
invariant-loop-cell l = minus l.self (cells_of (drop l.cell-index l.cells)) ≡ minus l.initial.self (cells_of l.cells)
