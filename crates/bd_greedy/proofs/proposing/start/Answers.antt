use Rattle.std.proofs.Common.{refl, ap, ◌∙◌, length, None}
use Rattle.bd_greedy.specs.Hunt.{sum_value}
use Rattle.bd_greedy.proofs.HuntLemmas.{first_none, first_some}
use Rattle.bd_greedy.proofs.proposing.start.Goals as goal

pub returns-in-None-clause-first : goal.returns-in-None-clause-first
returns-in-None-clause-first c =
    first_none c.args.task.now (length c.args.task.now.actions) c.new.result c.new.ensures c.in_ok-value_of.field-0
    (c.in_ok-value_of.ensures.value ∙ ap (sum_value c.args.task.now) (c.in_ok-state.ensures ∙ c.init.ensures.set)) c.in-None.is

pub returns-in_ok-put-in-Some-clause-first : goal.returns-in_ok-put-in-Some-clause-first
returns-in_ok-put-in-Some-clause-first c =
    first_some c.args.task.now (length c.args.task.now.actions) (record { state = c.in_ok-state.state; cost = 0; value = c.in-Some.value; total = c.in-Some.value; from = None }) c.put.new.self c.new-opened.result c.new-opened.ensures
    c.in_ok-put-in-Some.ensures (c.in_ok-state.ensures ∙ c.init.ensures.set) refl refl
