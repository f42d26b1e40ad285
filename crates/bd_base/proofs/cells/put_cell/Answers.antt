use Rattle.std.proofs.Common.{◌^◌, List, ap, sym, ◌∙◌, subst, arith}
use Rattle.bd_base.specs.Cells.{cells_of, AreCells, HasCell, LacksCell}
use Rattle.bd_base.specs.declared.cells.Cell.{Cell}
use Rattle.bd_base.proofs.CellLemmas.{put_in, put_new, AreCells-set, AreCells-insert}
use Rattle.bd_base.proofs.cells.put_cell.Goals as goal

pub returns-in-Ok-clause-cells : goal.returns-in-Ok-clause-cells
returns-in-Ok-clause-cells c =
    let h = subst (λ (z : List Cell). HasCell c.args.number z c.in-Ok.place) c.deref.ensures.value c.in-Ok.ensures in
    AreCells-set _ _ c.args.cells.now.items c.in-Ok.place c.args.number _ (record { number = 0; word = 0 }) c.requires.cells h.0 (h.1 _)

pub returns-in-Ok-clause-ok : goal.returns-in-Ok-clause-ok
returns-in-Ok-clause-ok c =
    let h = subst (λ (z : List Cell). HasCell c.args.number z c.in-Ok.place) c.deref.ensures.value c.in-Ok.ensures in
    put_in c.args.cells.now.items c.in-Ok.place c.args.number c.args.word _ c.requires.cells h c.index.ensures

pub returns-in_ok-insert-in-Err-clause-cells : goal.returns-in_ok-insert-in-Err-clause-cells
returns-in_ok-insert-in-Err-clause-cells c =
    let h = subst (λ (z : List Cell). LacksCell c.args.number z c.in-Err.place) c.deref.ensures.value c.in-Err.ensures in
    subst (λ (z : List Cell). AreCells 0 (2 ^ 26) z) (sym c.in_ok-insert-in-Err.ensures.items)
    (AreCells-insert 0 (2 ^ 26) c.args.cells.now.items c.in-Err.place _ (record { number = 0; word = 0 }) c.requires.cells (omega arith) c.requires.low h)

pub returns-in_ok-insert-in-Err-clause-ok : goal.returns-in_ok-insert-in-Err-clause-ok
returns-in_ok-insert-in-Err-clause-ok c =
    let h = subst (λ (z : List Cell). LacksCell c.args.number z c.in-Err.place) c.deref.ensures.value c.in-Err.ensures in
    ap cells_of c.in_ok-insert-in-Err.ensures.items ∙ put_new c.args.cells.now.items c.in-Err.place c.args.number c.args.word c.requires.cells c.requires.low h
