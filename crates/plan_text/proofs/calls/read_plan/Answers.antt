use Rattle.plan_text.proofs.CallLemmas.{plan_says}
use Rattle.plan_text.proofs.calls.read_plan.Goals as goal

pub returns-clause-spelled : goal.returns-clause-spelled
returns-clause-spelled c = plan_says c.args.domain.now c.args.problem.now c.args.text.now c.read_within.result c.read_within.ensures
