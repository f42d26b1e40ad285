use Rattle.plan_core.specs.Core.{is_replacement}
use Rattle.plan_rebuild.proofs.GrowLemmas.{adds_here}
use Rattle.bd_workers.proofs.offering.offer_proposal.Goals as goal

pub returns-then-list-ge4294967296 : goal.returns-then-list-ge4294967296
returns-then-list-ge4294967296 c = adds_here is_replacement c.args.core.now

pub returns-in_err-offer : goal.returns-in_err-offer
returns-in_err-offer c = adds_here is_replacement c.args.core.now
