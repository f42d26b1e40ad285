use Rattle.plan_core.specs.Core.{is_replacement}
use Rattle.plan_rebuild.proofs.GrowLemmas.{adds_here}
use Rattle.bd_workers.proofs.rounds.reply_of.Goals as goal

pub returns-in-Exhausted-clause-adds : goal.returns-in-Exhausted-clause-adds
returns-in-Exhausted-clause-adds g c = adds_here is_replacement c.args.core.now
