use Rattle.std.proofs.Common.{◌+◌, ◌<◌, refl, get_or, length, ap, ◌∙◌, arith}
use Rattle.bd_base.specs.Bits.{row_of}
use Rattle.bd_base.proofs.CellLemmas.{cell_made, cell_fits, none_made, cells_higher}
use Rattle.bd_base.proofs.WordLemmas.{take_whole}
use Rattle.bd_base.proofs.cells.cells_from.Goals as goal
use Rattle.bd_base.proofs.cells.cells_from.Goals.{then-word-ne0+in_ok-push, else-word-ne0}

pub loop-n-preserved : goal.loop-n-preserved
loop-n-preserved c =
    let words = c.args.words.now in
    let n = c.loop-n.n in
    let cells = c.loop-n.cells.items in
    let inv = c.loop-n.invariant in
    let lt : n < length words = omega arith in
    elim c.if-word-ne0.branch [
      | then-word-ne0+in_ok-push w ↦ rw (w.cells-is, w.in_ok-push.ensures.items) (record {
        made = cell_made cells words n lt inv.made inv.fits (get_or words n 0) refl;
        fits = cell_fits cells words n lt inv.made inv.fits (get_or words n 0);
      })
      | else-word-ne0 w ↦ rw w.cells-is (record {
        made = none_made cells words n lt inv.made inv.fits w.if-word-ne0.false;
        fits = cells_higher 0 n (n + 1) cells (omega arith) inv.fits;
      })
    ]

pub returns : goal.returns
returns c =
    let all = take_whole c.args.words.now c.loop-n.n (omega arith) in
    (c.loop-n.invariant.made ∙ ap (row_of 0) all, cells_higher 0 c.loop-n.n _ c.loop-n.cells.items (omega arith) c.loop-n.invariant.fits)
