use Rattle.std.proofs.Common.{◌∙◌, ap, sym}
use Rattle.std.specs.List.{list_any}
use Rattle.bd_base.specs.Facts.{has}
use Rattle.bd_base.specs.Pairs.{after_of, is_before}
use Rattle.bd_base.proofs.RowLemmas.{before_by_row}
use Rattle.bd_links.proofs.RowLemmas.{any_same}
use Rattle.bd_subtask.proofs.marking.some_after.Goals as goal

pub returns-in-Ok : goal.returns-in-Ok
returns-in-Ok c =
    let order = c.args.order.now in
    let at = c.args.at in
    let members = c.args.members.now in
    c.some_in.ensures
    ∙ ap (λ row. list_any (λ m. has row m) members) c.after.ensures
    ∙ ap (λ i. list_any (λ m. has (after_of order i) m) members) c.in-Ok.ensures.1
    ∙ any_same (λ m. has (after_of order at) m) (λ m. is_before order at m) (λ m. sym (before_by_row order at m)) members
