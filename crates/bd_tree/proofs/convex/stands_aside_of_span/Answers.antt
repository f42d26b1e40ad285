use Rattle.std.proofs.Common.{sym}
use Rattle.bd_tree.proofs.ConvexLemmas.{aside_below, aside_behind}
use Rattle.bd_tree.proofs.convex.stands_aside_of_span.Goals as goal
use Rattle.bd_tree.proofs.convex.stands_aside_of_span.Goals.{then-k-span-via-then-k-span, then-k-span-via-else-k-span+then-span-k}

pub returns-then-k-span : goal.returns-then-k-span
returns-then-k-span c = elim c.then-k-span.branch [
  | then-k-span-via-then-k-span w ↦ sym (aside_below _ _ _ _ c.args.span.past c.requires.rising c.requires.span c.args.k c.args.kid.now w.if-k-span.true)
  | then-k-span-via-else-k-span+then-span-k w ↦ sym (aside_behind _ _ _ c.args.span.first _ c.requires.rising c.requires.span c.args.k c.args.kid.now w.if-span-k.true)
]
