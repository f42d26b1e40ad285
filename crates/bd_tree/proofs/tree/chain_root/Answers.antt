use Rattle.bd_tree.proofs.ChainLemmas.{done_chain}
use Rattle.bd_tree.proofs.tree.chain_root.Goals as goal

pub returns : goal.returns
returns c = done_chain c.args.list.now c.loop-action.kids.items c.of.result c.loop-action.id c.loop-action.action-index c.in_ok-order.order c.loop-action-test.false c.loop-action.invariant.1 c.of.ensures c.in_ok-order.ensures
