use Rattle.plan_core.specs.Core.{is_replacement}
use Rattle.plan_rebuild.proofs.StepLemmas.{adds_accepted, adds_same}
use Rattle.bd_workers.proofs.StepLemmas.{told_ok}
use Rattle.bd_workers.proofs.offering.reply_to.Goals as goal

pub returns-then-is_memory-clause-adds : goal.returns-then-is_memory-clause-adds
returns-then-is_memory-clause-adds c = adds_same is_replacement _ _ c.in-Err.ensures.err

pub returns-in-Ok-clause-adds : goal.returns-in-Ok-clause-adds
returns-in-Ok-clause-adds c = adds_accepted is_replacement _ _ c.args.offer.now c.in-Ok.ensures.ok c.requires.replaces

pub returns-in-Ok-clause-reply : goal.returns-in-Ok-clause-reply
returns-in-Ok-clause-reply c = told_ok _ _ _ _ c.in-Ok.ensures.ok c.in-Ok.ensures.reply.1

pub returns-else-is_memory-clause-adds : goal.returns-else-is_memory-clause-adds
returns-else-is_memory-clause-adds c = adds_same is_replacement _ _ c.in-Err.ensures.err
