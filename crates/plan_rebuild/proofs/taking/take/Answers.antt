use Rattle.plan_rebuild.proofs.TakenLemmas.{no_refusal}
use Rattle.plan_rebuild.proofs.taking.take.Goals as goal

pub prove-unreachable-requires : goal.prove-unreachable-requires
prove-unreachable-requires c = no_refusal c.args.core.now c.args.offer.now c.requires.may c.in-Err.why c.is_memory-memory.result c.in-Err.ensures.reply c.is_memory-memory.ensures c.if-prove.true
