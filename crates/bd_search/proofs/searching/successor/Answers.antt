use Rattle.std.proofs.Common.{sym, ap, ◌∙◌}
use Rattle.bd_base.specs.Facts.{minus, plus}
use Rattle.bd_search.proofs.StepLemmas.{known_there, no_step, successor_from}
use Rattle.bd_search.proofs.searching.successor.Goals as goal

pub returns-then-not-subset-clause-next : goal.returns-then-not-subset-clause-next
returns-then-not-subset-clause-next c =
    no_step c.args.task.now c.args.bound c.args.closed.now c.args.entry.now c.args.place c.args.number c.action-action.result.now c.action-action.ensures.action (sym c.if-not-subset.ensures)

pub returns-then-knows-clause-next : goal.returns-then-knows-clause-next
returns-then-knows-clause-next c =
    known_there c.args.task.now c.args.bound c.args.closed.now c.args.entry.now c.args.place c.args.number c.action-action.result.now c.action-action.ensures.action c.join.new.self c.in-Some.cost
    (sym c.if-not-subset.ensures) (c.in_ok-join.ensures.ok ∙ ap (λ z. plus z c.action-action.result.now.add) (c.minus.ensures ∙ ap (λ z. minus z c.action-action.result.now.del) c.in_ok-state.ensures))
    c.in-Some.ensures.1 (c.knows.ensures c.if-knows.true)

pub returns-clause-next : goal.returns-clause-next
returns-clause-next c =
    successor_from c.args.task.now c.args.bound c.args.closed.now c.args.entry.now c.args.place c.args.number c.action-action.result.now c.action-action.ensures.action c.join.new.self c.in-Some.cost
    (sym c.if-not-subset.ensures) (c.in_ok-join.ensures.ok ∙ ap (λ z. plus z c.action-action.result.now.add) (c.minus.ensures ∙ ap (λ z. minus z c.action-action.result.now.del) c.in_ok-state.ensures))
    c.in-Some.ensures.1 c.entry_of.result c.entry_of.ensures.entry
