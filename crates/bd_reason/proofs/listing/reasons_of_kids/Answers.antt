use Rattle.std.proofs.Common.{◌≡◌, IfOk, subst}
use Rattle.bd_links.specs.Child.{Child}
use Rattle.bd_links.specs.Sound.{effects_of}
use Rattle.bd_reason.specs.Reasons.{reasons_of}
use Rattle.bd_reason.proofs.listing.reasons_of_kids.Goals as goal

pub returns : goal.returns
returns c =
    subst (λ (e : Child). IfOk c.reasons_between.result (λ v. v.items ≡ reasons_of e.effects (effects_of c.args.task.now.actions c.args.second.now))) c.in_ok-from.ensures
    (subst (λ (e : Child). IfOk c.reasons_between.result (λ v. v.items ≡ reasons_of c.in_ok-from.from.effects e.effects)) c.in_ok-to.ensures c.reasons_between.ensures)
