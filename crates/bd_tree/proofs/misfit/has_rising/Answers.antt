use Rattle.std.proofs.Common.{◌≡◌, ◌∷◌, ◌++◌, sym, ◌∙◌}
use Rattle.bd_tree.proofs.HalvingLemmas.{joined_parts, below_rises, above_rises, only_above, only_below}
use Rattle.bd_tree.proofs.misfit.has_rising.Goals as goal

pub loop-middle-preserved-then-is_less : goal.loop-middle-preserved-then-is_less
loop-middle-preserved-then-is_less c =
    let split : c.split_at.result.0.now ++ c.in-Some.middle.now ∷ c.in-Some.above.now ≡ c.loop-middle.left.now = joined_parts _ _ _ _ _ _ c.split_at.ensures.front c.split_at.ensures.back c.in-Some.ensures.cases.0 in
    record {
      rising = above_rises c.args.i c.args.j c.loop-middle.left.now c.split_at.result.0.now c.in-Some.above.now c.in-Some.middle.now split c.loop-middle.invariant.rising;
      same = only_above c.args.i c.args.j c.loop-middle.left.now c.split_at.result.0.now c.in-Some.above.now c.in-Some.middle.now split c.loop-middle.invariant.rising (sym c.is_less.ensures ∙ c.if-is_less.true) ∙ c.loop-middle.invariant.same;
    }

pub loop-middle-preserved : goal.loop-middle-preserved
loop-middle-preserved c =
    let split : c.split_at.result.0.now ++ c.in-Some.middle.now ∷ c.in-Some.above.now ≡ c.loop-middle.left.now = joined_parts _ _ _ _ _ _ c.split_at.ensures.front c.split_at.ensures.back c.in-Some.ensures.cases.0 in
    record {
      rising = below_rises c.args.i c.args.j c.loop-middle.left.now c.split_at.result.0.now c.in-Some.above.now c.in-Some.middle.now split c.loop-middle.invariant.rising;
      same = only_below c.args.i c.args.j c.loop-middle.left.now c.split_at.result.0.now c.in-Some.above.now c.in-Some.middle.now split c.loop-middle.invariant.rising (sym c.is_less-else-is_less.ensures ∙ c.if-is_less-2.true) ∙ c.loop-middle.invariant.same;
    }
