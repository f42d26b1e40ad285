use Rattle.std.proofs.Common.{length, refl, ap}
use Rattle.bd_workers.proofs.StepLemmas.{told_err}
use Rattle.bd_workers.proofs.offering.overlong.Goals as goal

pub returns : goal.returns
returns c = told_err c.args.core.now c.args.core.now _ _ _ c.keeps.ensures refl (ap length c.history.ensures) c.why_overlong-why.ensures.why c.why_overlong-why.ensures.told
