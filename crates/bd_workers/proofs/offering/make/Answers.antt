use Rattle.plan_core.specs.Core.{is_replacement}
use Rattle.plan_rebuild.proofs.StepLemmas.{adds_accepted, adds_same}
use Rattle.bd_workers.proofs.offering.make.Goals as goal

pub returns-then-is_memory : goal.returns-then-is_memory
returns-then-is_memory c = adds_same is_replacement _ _ c.in-Err.ensures.err

pub returns-in-Ok : goal.returns-in-Ok
returns-in-Ok c = adds_accepted is_replacement _ _ c.args.offer.now c.in-Ok.ensures.ok c.requires.replaces

pub returns-else-is_memory : goal.returns-else-is_memory
returns-else-is_memory c = adds_same is_replacement _ _ c.in-Err.ensures.err
