use Rattle.plan_text.proofs.CallLemmas.{plan_one}
use Rattle.plan_text.proofs.calls.one_plan.Goals as goal

pub returns : goal.returns
returns c = λ d p text a b h k. plan_one d p text a b h k
