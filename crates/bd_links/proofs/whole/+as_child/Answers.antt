use Rattle.std.proofs.Common.{◌∙◌}
use Rattle.bd_links.proofs.Stops.{block_child}
use Rattle.bd_links.proofs.whole.+as_child.Goals as goal

pub returns-in_ok-effects-in-Block : goal.returns-in_ok-effects-in-Block
returns-in_ok-effects-in-Block t c =
    c.of_effects.ensures ∙ block_child c.args.task.now.actions _ _ _ _ c.in-Block.is _ c.as_slice-kid-items.ensures _ c.loop-kid-test.false _ (c.deref.ensures.value ∙ c.loop-kid.invariant.made) _ c.in_ok-effects-in-Block.ensures
