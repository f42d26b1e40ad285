use Rattle.plan_rebuild.proofs.StepLemmas.{step_here, grows_taken, due_taken}
use Rattle.plan_rebuild.proofs.rebuilding.rebuild.Goals as goal

pub returns-then-not-due-clause-grows : goal.returns-then-not-due-clause-grows
returns-then-not-due-clause-grows c = step_here c.args.core.now

pub returns-in_err-order-clause-grows : goal.returns-in_err-order-clause-grows
returns-in_err-order-clause-grows c = step_here c.args.core.now

pub returns-clause-grows : goal.returns-clause-grows
returns-clause-grows c = grows_taken c.args.core.now c.take.new.core _ c.take.result c.keeps.ensures c.in_ok-order.ensures.reasoned c.take.ensures.taken c.take.ensures.same

pub returns-clause-rebuilt : goal.returns-clause-rebuilt
returns-clause-rebuilt c = due_taken c.args.core.now c.take.new.core _ c.take.result c.take.ensures.taken
