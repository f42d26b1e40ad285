use Rattle.std.proofs.Common.{◌^◌, List, ap, sym, ◌∙◌, subst}
use Rattle.bd_base.specs.Cells.{cells_of, AreCells, HasCell, LacksCell}
use Rattle.bd_base.specs.declared.cells.Cell.{Cell}
use Rattle.bd_base.proofs.CellLemmas.{clear_in, clear_out, clear_all, AreCells-set, AreCells-remove}
use Rattle.bd_base.proofs.cells.clear_cell.Goals as goal

pub returns-in_default-clause-cleared : goal.returns-in_default-clause-cleared
returns-in_default-clause-cleared c =
    let h = subst (λ (z : List Cell). LacksCell c.args.number z c.in_default.field-0) c.deref.ensures.value c.in_default.ensures in
    clear_out c.args.cells.now.items c.in_default.field-0 c.args.number c.args.word c.requires h

pub returns-then-word-eq0-clause-cells : goal.returns-then-word-eq0-clause-cells
returns-then-word-eq0-clause-cells c =
    let h = subst (λ (z : List Cell). HasCell c.args.number z c.in-Ok.place) c.deref.ensures.value c.in-Ok.ensures in
    subst (λ (z : List Cell). AreCells 0 (2 ^ 26) z) (sym c.remove.ensures.items) (AreCells-remove 0 (2 ^ 26) c.args.cells.now.items c.in-Ok.place c.requires h.0)

pub returns-then-word-eq0-clause-cleared : goal.returns-then-word-eq0-clause-cleared
returns-then-word-eq0-clause-cleared c =
    let h = subst (λ (z : List Cell). HasCell c.args.number z c.in-Ok.place) c.deref.ensures.value c.in-Ok.ensures in
    ap cells_of c.remove.ensures.items ∙ clear_all c.args.cells.now.items c.in-Ok.place c.args.number c.args.word _ c.requires c.ranges.word.fits h c.index.ensures c.if-word-eq0.true

pub returns-else-word-eq0-clause-cells : goal.returns-else-word-eq0-clause-cells
returns-else-word-eq0-clause-cells c =
    let h = subst (λ (z : List Cell). HasCell c.args.number z c.in-Ok.place) c.deref.ensures.value c.in-Ok.ensures in
    AreCells-set _ _ c.args.cells.now.items c.in-Ok.place c.args.number _ (record { number = 0; word = 0 }) c.requires h.0 (h.1 _)

pub returns-else-word-eq0-clause-cleared : goal.returns-else-word-eq0-clause-cleared
returns-else-word-eq0-clause-cleared c =
    let h = subst (λ (z : List Cell). HasCell c.args.number z c.in-Ok.place) c.deref.ensures.value c.in-Ok.ensures in
    clear_in c.args.cells.now.items c.in-Ok.place c.args.number c.args.word _ c.requires c.ranges.word.fits h c.index.ensures
