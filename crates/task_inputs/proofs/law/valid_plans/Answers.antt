use Rattle.task_inputs.proofs.ValidLemmas.{valid_plans_law}
use Rattle.task_inputs.proofs.law.valid_plans.Goals as goal

pub returns : goal.returns
returns c = valid_plans_law
