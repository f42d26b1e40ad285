use Rattle.plan_rebuild.proofs.FlatLemmas.{lent_there, lent_short, order_told}
use Rattle.plan_rebuild.proofs.rebuilding.looser_order.Goals as goal

pub deordered-requires-clause-in_range : goal.deordered-requires-clause-in_range
deordered-requires-clause-in_range c =
    lent_there c.args.core.now c.keeps.ensures c.tree.ensures.lawful.runs c.tree.result.now c.task.result.now c.in_ok-list.list c.as_slice.result.now c.tree.ensures.tree c.task.ensures c.in_ok-list.ensures.items c.in_ok-list.ensures.linearisation c.as_slice.ensures

pub deordered-requires-clause-few : goal.deordered-requires-clause-few
deordered-requires-clause-few c =
    lent_short c.args.core.now c.keeps.ensures c.tree.ensures.lawful.runs c.tree.result.now c.task.result.now c.in_ok-list.list c.as_slice.result.now c.tree.ensures.tree c.task.ensures c.in_ok-list.ensures.items c.in_ok-list.ensures.linearisation c.as_slice.ensures

pub returns-in-Block : goal.returns-in-Block
returns-in-Block c =
    order_told c.args.core.now c.keeps.ensures c.tree.ensures.lawful.runs c.tree.result.now c.task.result.now c.in_ok-list.list c.as_slice.result.now c.tree.ensures.tree c.task.ensures c.in_ok-list.ensures.items c.in_ok-list.ensures.linearisation c.as_slice.ensures
    c.in_ok-tree.tree c.root.result.now _ _ _ c.try_copy.result c.in_ok-tree.ensures c.root.ensures.root c.in-Block.is c.try_copy.ensures
