use Rattle.plan_rebuild.proofs.FallLemmas.{falls}
use Rattle.plan_rebuild.proofs.law.accepted_falls.Goals as goal

pub returns : goal.returns
returns c = λ core offer place is r. falls core offer place is r
