use Rattle.std.proofs.Common.{◌≡◌, drop}
use Rattle.std.specs.List.{list_any}
use Rattle.bd_base.specs.Cells.{cells_of}
use Rattle.bd_base.specs.Facts.{has}
use Rattle.bd_base.proofs.facts.FactSet.meets_cells.Given as goal

abbrev pub invariant-loop-cell : goal.invariant-loop-cell
invariant-loop-cell l = list_any (has l.self) (cells_of (drop l.cell-index l.cells)) ≡ list_any (has l.self) (cells_of l.cells)
