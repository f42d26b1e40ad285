use Rattle.plan_core.specs.Core.{is_replacement}
use Rattle.plan_rebuild.proofs.GrowLemmas.{adds_here}
use Rattle.bd_workers.proofs.rounds.propose.Goals as goal

pub returns-in_err-propose : goal.returns-in_err-propose
returns-in_err-propose g c = adds_here is_replacement c.args.core.now

pub returns-in-None : goal.returns-in-None
returns-in-None g c = adds_here is_replacement c.args.core.now
