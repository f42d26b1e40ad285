use Rattle.task_inputs.proofs.CallsLemmas.{calls_judged, calls_missing}
use Rattle.task_inputs.proofs.steps.judged_calls.Goals as goal

pub returns-in-Err-list_of-clause-judged : goal.returns-in-Err-list_of-clause-judged
returns-in-Err-list_of-clause-judged c =
    calls_missing c.args.domain.now c.args.problem.now c.args.calls.now c.in-Ok.task c.in-Ok.ensures c.in-Err-list_of.error c.refused-in-Err-list_of.result c.refused-in-Err-list_of.ensures c.in-Err-list_of.ensures.listed

pub returns-in-Ok-list_of-clause-judged : goal.returns-in-Ok-list_of-clause-judged
returns-in-Ok-list_of-clause-judged c =
    calls_judged c.args.domain.now c.args.problem.now c.args.calls.now c.in-Ok.task c.in-Ok.ensures c.in-Ok-list_of.plan c.judged.result c.in-Ok-list_of.ensures.listed c.judged.ensures.judged
