use Rattle.plan_core.specs.Core.{is_replacement}
use Rattle.plan_rebuild.proofs.GrowLemmas.{adds_here}
use Rattle.bd_workers.proofs.offering.reply_to_found.Goals as goal

pub returns-then-list-ge4294967296-clause-adds : goal.returns-then-list-ge4294967296-clause-adds
returns-then-list-ge4294967296-clause-adds c = adds_here is_replacement c.args.core.now

pub returns-in_err-offer-clause-adds : goal.returns-in_err-offer-clause-adds
returns-in_err-offer-clause-adds c = adds_here is_replacement c.args.core.now
