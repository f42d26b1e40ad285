use Rattle.std.proofs.Common.{◌∙◌, arith}
use Rattle.bd_base.proofs.CellLemmas.{minus_cell}
use Rattle.bd_base.proofs.facts.FactSet.clear_cells.Goals as goal

pub loop-cell-preserved : goal.loop-cell-preserved
loop-cell-preserved c = minus_cell c.args.cells.now c.loop-cell.cell-index _ (omega arith) c.loop-cell.self c.clear.new.self c.clear.ensures ∙ c.loop-cell.invariant
