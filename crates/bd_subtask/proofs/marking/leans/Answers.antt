use Rattle.std.proofs.Common.{◌∙◌, ap, not, sym}
use Rattle.bd_base.specs.Facts.{has}
use Rattle.bd_merge.specs.declared.window.Lean.{Lean}
use Rattle.bd_subtask.specs.Level.{leans, reach_of}
use Rattle.bd_subtask.proofs.MarkLemmas.{reach_has}
use Rattle.bd_subtask.proofs.marking.leans.Goals as goal

pub returns-in-Early : goal.returns-in-Early
returns-in-Early c =
    let order = c.args.order.now in
    let members = c.args.members.now in
    let at = c.args.at in
    ap not (
    c.row_has.ensures
    ∙ ap (λ row. has row at) (c.requires ∙ ap (λ (l : Lean). reach_of l order members) c.in-Early.is)
    ∙ reach_has order members at)
    ∙ sym (ap (λ (l : Lean). leans l order members at) c.in-Early.is)
