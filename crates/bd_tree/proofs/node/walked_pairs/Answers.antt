use Rattle.std.proofs.Common.{arith}
use Rattle.bd_tree.proofs.BoundLemmas.{first_within, steps_at}
use Rattle.bd_tree.proofs.node.walked_pairs.Goals as goal

pub steps-requires : goal.steps-requires
steps-requires c =
    omega (arith, c.requires.few, steps_at c.args.kids.now c.in-Some.pair.0 _ _ (first_within _ _ _ c.in-Some.pair c.loop-pair.invariant.1 c.in-Some.ensures.steps).0 c.index-kids-pair.is)

pub steps-requires-in-loop-pair : goal.steps-requires-in-loop-pair
steps-requires-in-loop-pair c =
    omega (arith, c.requires.few, steps_at c.args.kids.now c.in-Some.pair.1 _ _ (first_within _ _ _ c.in-Some.pair c.loop-pair.invariant.1 c.in-Some.ensures.steps).1 c.index-kids-pair-in-loop-pair.is)
