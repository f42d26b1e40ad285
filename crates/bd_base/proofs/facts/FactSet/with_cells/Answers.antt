use Rattle.std.proofs.Common.{◌∙◌, ◌<◌, ◌^◌, length, arith}
use Rattle.bd_base.proofs.CellLemmas.{plus_cell, cells_high}
use Rattle.bd_base.proofs.facts.FactSet.with_cells.Goals as goal

pub put-requires : goal.put-requires
put-requires c =
    let lt : c.loop-cell.cell-index < length c.args.cells.now = omega arith in
    cells_high 0 (2 ^ 26) c.args.cells.now c.loop-cell.cell-index (record { number = 0; word = 0 }) c.requires lt

pub loop-cell-preserved : goal.loop-cell-preserved
loop-cell-preserved c =
    plus_cell c.args.cells.now c.loop-cell.cell-index _ (omega arith) c.loop-cell.set c.put.new.self c.in_ok-put.ensures.ok ∙ c.loop-cell.invariant
