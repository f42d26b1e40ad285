use Rattle.plan_improve.proofs.LentLemmas.{lent, no_refusal}
use Rattle.plan_improve.proofs.following.follow.Goals as goal

pub offer-requires : goal.offer-requires
offer-requires c = record { lent = lent c.args.core.now c.keeps.ensures.room c.args.offer.now c.requires }

pub prove-unreachable-requires : goal.prove-unreachable-requires
prove-unreachable-requires c = no_refusal c.args.core.now c.args.offer.now c.requires c.in-Err.why c.is_memory-memory.result c.in-Err.ensures.reply c.is_memory-memory.ensures c.if-prove.true
