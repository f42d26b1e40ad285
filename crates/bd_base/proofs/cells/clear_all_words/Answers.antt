use Rattle.std.proofs.Common.{◌∙◌, arith}
use Rattle.bd_base.specs.Cells.{cells_of}
use Rattle.bd_base.proofs.SetLemmas.{minus_step}
use Rattle.bd_base.proofs.cells.clear_all_words.Goals as goal

pub loop-n-preserved : goal.loop-n-preserved
loop-n-preserved c =
    let inv = c.loop-n.invariant in
    record {
      left = minus_step (cells_of c.loop-n.cells.items) (cells_of c.clear_cell.new.cells.items) c.args.words.now c.loop-n.n (omega arith) c.clear_cell.ensures.cleared ∙ inv.left;
      fits = c.clear_cell.ensures.cells;
    }
