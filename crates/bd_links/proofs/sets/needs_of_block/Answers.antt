use Rattle.bd_links.proofs.PastLemmas.{needs_done}
use Rattle.bd_links.proofs.sets.needs_of_block.Goals as goal

pub returns : goal.returns
returns c = needs_done c.args.order.now c.args.touches.now c.args.kids.now c.requires c.loop-j.need c.loop-j.j c.loop-j-test.false c.loop-j.invariant
