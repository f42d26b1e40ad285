use Rattle.std.proofs.Common.{◌∙◌, ◌<◌, length, arith}
use Rattle.bd_base.specs.Bits.{row_of}
use Rattle.bd_base.proofs.CellLemmas.{plus_cell, cells_high}
use Rattle.bd_base.proofs.cells.put_cells.Goals as goal

pub put_word-requires : goal.put_word-requires
put_word-requires c =
    let lt : c.loop-cell.cell-index < length c.args.cells.now = omega arith in
    omega (arith, c.loop-cell.invariant.len, cells_high 0 (length c.args.words.now.items) c.args.cells.now c.loop-cell.cell-index (record { number = 0; word = 0 }) c.requires lt)

pub loop-cell-preserved : goal.loop-cell-preserved
loop-cell-preserved c =
    let inv = c.loop-cell.invariant in
    record {
      left = plus_cell c.args.cells.now c.loop-cell.cell-index _ (omega arith) (row_of 0 c.loop-cell.words.items) (row_of 0 c.put_word.new.words.items) c.put_word.ensures.put ∙ inv.left;
      len = c.put_word.ensures.len ∙ inv.len;
    }
