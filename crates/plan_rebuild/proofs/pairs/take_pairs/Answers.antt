use Rattle.std.proofs.Common.{length, ap, arith}
use Rattle.plan_core.specs.Core.{is_tightening}
use Rattle.plan_rebuild.proofs.GrowLemmas.{adds_here, adds_then}
use Rattle.plan_rebuild.proofs.pairs.take_pairs.Goals as goal

pub returns-in_err-kept-clause-adds : goal.returns-in_err-kept-clause-adds
returns-in_err-kept-clause-adds c = adds_here is_tightening c.args.core.now

pub loop-alloc-init : goal.loop-alloc-init
loop-alloc-init c = record {
  adds = adds_here is_tightening c.args.core.now;
  kept = c.in_ok-kept.ensures.kept;
  few = c.in_ok-kept.ensures.few;
  fewer = omega arith;
}

pub returns-in_err-take_pair-in-Some-clause-adds : goal.returns-in_err-take_pair-in-Some-clause-adds
returns-in_err-take_pair-in-Some-clause-adds c = adds_then is_tightening _ c.loop-alloc.core _ c.loop-alloc.invariant.adds c.take_pair.ensures.adds

pub returns-then-not-branch-clause-adds : goal.returns-then-not-branch-clause-adds
returns-then-not-branch-clause-adds c = adds_then is_tightening _ c.loop-alloc.core _ c.loop-alloc.invariant.adds c.take_pair.ensures.adds

pub loop-alloc-preserved : goal.loop-alloc-preserved
loop-alloc-preserved c = record {
  adds = adds_then is_tightening _ c.loop-alloc.core _ c.loop-alloc.invariant.adds c.take_pair.ensures.adds;
  kept = c.in_ok-take_pair-in-Some.ensures.kept;
  few = omega (arith, ap (λ kids. length kids.items) c.take_pair.ensures.kids, c.loop-alloc.invariant.few);
  fewer = omega (arith, c.in_ok-take_pair-in-Some.ensures.few, c.loop-alloc.invariant.fewer);
}
