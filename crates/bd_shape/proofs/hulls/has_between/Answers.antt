use Rattle.std.proofs.Common.{◌∙◌}
use Rattle.bd_shape.proofs.BetweenLemmas.{of_block}
use Rattle.bd_shape.proofs.hulls.has_between.Goals as goal

pub returns-in-Block : goal.returns-in-Block
returns-in-Block c = c.some_leads.ensures ∙ of_block c.args.block.now c.in-Block.id c.in-Block.kids c.as_slice.result.now c.in-Block.order c.args.i c.args.j c.in-Block.is c.as_slice.ensures
