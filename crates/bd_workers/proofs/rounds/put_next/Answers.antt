use Rattle.plan_core.specs.Core.{is_replacement}
use Rattle.plan_rebuild.proofs.GrowLemmas.{adds_here}
use Rattle.bd_workers.proofs.rounds.put_next.Goals as goal

pub returns-in_err-tree-clause-adds : goal.returns-in_err-tree-clause-adds
returns-in_err-tree-clause-adds g c = adds_here is_replacement c.args.core.now

pub returns-in_err-posing-clause-adds : goal.returns-in_err-posing-clause-adds
returns-in_err-posing-clause-adds g c = adds_here is_replacement c.args.core.now
