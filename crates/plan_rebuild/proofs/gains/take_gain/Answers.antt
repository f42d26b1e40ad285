use Rattle.plan_rebuild.proofs.StepLemmas.{adds_taken}
use Rattle.plan_core.specs.Core.{is_tightening}
use Rattle.plan_rebuild.proofs.gains.take_gain.Goals as goal

pub returns-clause-adds : goal.returns-clause-adds
returns-clause-adds c = adds_taken is_tightening _ _ _ _ c.take.ensures.taken c.take.ensures.same Rattle.std.proofs.Common.refl
