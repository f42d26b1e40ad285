use Rattle.std.proofs.Common.{sym, ◌∙◌}
use Rattle.bd_tree.proofs.ConvexLemmas.{after_from_first, after_none_from}
use Rattle.bd_tree.proofs.convex.is_after_earlier.Goals as goal

pub loop-k-init : goal.loop-k-init
loop-k-init c = record {
  within = c.requires.span.begins;
  rest = after_from_first _ _ _ _ c.args.span.past c.requires.rising c.requires.span c.args.j;
}

pub returns : goal.returns
returns c = sym (sym c.loop-k.invariant.rest ∙ after_none_from _ _ _ c.args.span.first c.args.span.past c.requires.rising c.requires.span c.args.j c.loop-k.k c.loop-k-test.false)
