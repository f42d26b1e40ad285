use Rattle.plan_core.proofs.LawLemmas.{lawful}
use Rattle.plan_core.proofs.law.offers_judged.Goals as goal

pub returns : goal.returns
returns c = lawful
