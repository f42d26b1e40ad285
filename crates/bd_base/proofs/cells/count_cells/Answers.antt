use Rattle.std.proofs.Common.{◌+◌, ◌<◌, List, length, get_or, take, ap, sym, ◌∙◌, arith}
use Rattle.std.proofs.lemmas.Grind.{take_at_read}
use Rattle.bd_base.specs.Cells.{cells_of}
use Rattle.bd_base.specs.declared.cells.Cell.{Cell}
use Rattle.bd_base.proofs.CellLemmas.{count_cell, cells_few}
use Rattle.bd_base.proofs.cells.count_cells.Goals as goal

pub overflow_add-n : goal.overflow_add-n
overflow_add-n c = omega (arith, cells_few 0 _ c.args.cells.now c.requires, c.ones_of-n.ensures.few, c.loop-cell.invariant.few)

pub loop-cell-preserved : goal.loop-cell-preserved
loop-cell-preserved c =
    let cells = c.args.cells.now in
    let i = c.loop-cell.cell-index in
    let d : Cell = record { number = 0; word = 0 } in
    let lt : i < length cells = omega arith in
    let ones = c.ones_of-n.ensures in
    record {
      counted = ap (λ z. c.loop-cell.n + z) ones.ones ∙ count_cell (take i cells) (get_or cells i d) c.loop-cell.n ones.fits c.loop-cell.invariant.counted ∙ ap (λ (z : List Cell). length (cells_of z)) (sym (take_at_read cells i d lt).1);
      few = omega (arith, ones.few, c.loop-cell.invariant.few);
    }
