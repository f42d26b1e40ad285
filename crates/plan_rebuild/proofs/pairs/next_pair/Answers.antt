use Rattle.plan_rebuild.proofs.PairLemmas.{kept_same}
use Rattle.plan_rebuild.proofs.pairs.next_pair.Goals as goal

pub next-requires-clause-kept : goal.next-requires-clause-kept
next-requires-clause-kept c = kept_same c.args.core.now.task c.task.result.now c.args.core.now.tree c.tree.result.now c.args.kept.now c.task.ensures c.tree.ensures.tree c.requires.kept
