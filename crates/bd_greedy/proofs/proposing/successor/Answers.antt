use Rattle.std.proofs.Common.{refl, sym, ap, ◌∙◌, ◌+◌, Some}
use Rattle.bd_base.specs.Facts.{minus, plus}
use Rattle.bd_greedy.proofs.HuntLemmas.{stands_there, no_step, no_value, next_from}
use Rattle.bd_greedy.proofs.proposing.successor.Goals as goal

pub returns-then-not-subset-clause-next : goal.returns-then-not-subset-clause-next
returns-then-not-subset-clause-next c = no_step c.args.task.now c.args.closed.now c.args.entry.now c.args.place c.args.number c.action-action.result.now c.action-action.ensures.action (sym c.if-not-subset.ensures)

pub returns-then-knows-clause-next : goal.returns-then-knows-clause-next
returns-then-knows-clause-next c =
    stands_there c.args.task.now c.args.closed.now c.args.entry.now c.args.place c.args.number c.action-action.result.now c.action-action.ensures.action c.join.new.self
    (sym c.if-not-subset.ensures) (c.in_ok-join.ensures.ok ∙ ap (λ z. plus z c.action-action.result.now.add) (c.minus.ensures ∙ ap (λ z. minus z c.action-action.result.now.del) c.in_ok-state.ensures))
    (c.knows.ensures c.if-knows.true)

pub returns-in-None-clause-next : goal.returns-in-None-clause-next
returns-in-None-clause-next c =
    no_value c.args.task.now c.args.closed.now c.args.entry.now c.args.place c.args.number c.action-action.result.now c.action-action.ensures.action c.join.new.self
    (sym c.if-not-subset.ensures) (c.in_ok-join.ensures.ok ∙ ap (λ z. plus z c.action-action.result.now.add) (c.minus.ensures ∙ ap (λ z. minus z c.action-action.result.now.del) c.in_ok-state.ensures))
    c.in_ok-value_of.field-0 c.in_ok-value_of.ensures.value c.in-None.is

pub returns-in-Some-clause-next : goal.returns-in-Some-clause-next
returns-in-Some-clause-next c =
    next_from c.args.task.now c.args.closed.now c.args.entry.now c.args.place c.args.number c.action-action.result.now c.action-action.ensures.action c.join.new.self
    (sym c.if-not-subset.ensures) (c.in_ok-join.ensures.ok ∙ ap (λ z. plus z c.action-action.result.now.add) (c.minus.ensures ∙ ap (λ z. minus z c.action-action.result.now.del) c.in_ok-state.ensures))
    (record { state = c.join.new.self; cost = c.args.entry.now.cost + c.action-action.result.now.cost; value = c.in-Some.value; total = c.in-Some.value; from = Some (record { place = c.args.place; action = c.args.number }) }) refl refl refl
