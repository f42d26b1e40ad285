use Rattle.std.proofs.Common.{sym, ◌∙◌, arith}
use Rattle.bd_tree.proofs.ConvexLemmas.{before_from_next, before_none_from}
use Rattle.bd_tree.proofs.convex.is_before_later.Goals as goal

pub loop-k-init : goal.loop-k-init
loop-k-init c = record {
  within = omega (arith, c.requires.within);
  rest = before_from_next _ _ _ c.args.span.first c.args.span.past c.requires.rising c.requires.span c.args.j c.requires.within;
}

pub returns : goal.returns
returns c = sym (sym c.loop-k.invariant.rest ∙ before_none_from _ _ _ c.args.span.first c.args.span.past c.requires.rising c.requires.span c.args.j c.loop-k.k c.loop-k-test.false)
