use Rattle.plan_core.specs.Core.{is_replacement}
use Rattle.plan_rebuild.proofs.GrowLemmas.{adds_here}
use Rattle.bd_workers.proofs.rounds.pieces_of.Goals as goal

pub returns-in_err-task-clause-adds : goal.returns-in_err-task-clause-adds
returns-in_err-task-clause-adds g c = adds_here is_replacement c.args.core.now
