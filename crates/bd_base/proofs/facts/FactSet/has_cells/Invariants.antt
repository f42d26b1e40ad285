use Rattle.std.proofs.Common.{◌≡◌, drop}
use Rattle.bd_base.specs.Cells.{cells_of}
use Rattle.bd_base.specs.Facts.{is_subset}
use Rattle.bd_base.proofs.facts.FactSet.has_cells.Given as goal

abbrev pub invariant-loop-cell : goal.invariant-loop-cell
invariant-loop-cell l = is_subset (cells_of (drop l.cell-index l.cells)) l.self ≡ is_subset (cells_of l.cells) l.self
