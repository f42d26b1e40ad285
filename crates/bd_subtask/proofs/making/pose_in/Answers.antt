use Rattle.std.proofs.Common.{◌≡◌}
use Rattle.bd_subtask.specs.Subtask.{around, carried_cost, subtask_from, subtask_of}
use Rattle.bd_subtask.specs.declared.parts.SubTask.{SubTask}
use Rattle.bd_subtask.proofs.Answering.{carried_below, if_ok, kept, node_at, posed}
use Rattle.bd_subtask.proofs.Few.{few_carried}
use Rattle.bd_subtask.proofs.making.pose_in.Goals as goal

pub pose-requires-clause-kept : goal.pose-requires-clause-kept
pose-requires-clause-kept c = kept c.args.task.now c.args.tree.now c.args.window.now c.args.level.now.node.now (node_at c.args.tree.now c.args.window.now c.args.level.now c.requires.own c.requires.level.node) c.in-Block.id c.in-Block.kids c.as_slice.result.now c.in-Block.order c.in-Block.is c.as_slice.ensures c.args.level.now c.requires.level c.requires.own

pub pose-requires-clause-below : goal.pose-requires-clause-below
pose-requires-clause-below c = carried_below c.args.task.now c.args.tree.now c.args.window.now c.requires.stands c.requires.below

pub pose-requires-clause-few : goal.pose-requires-clause-few
pose-requires-clause-few c = few_carried c.args.tree.now c.args.window.now c.requires.stands c.requires.few

pub returns-in-Block : goal.returns-in-Block
returns-in-Block c =
    let task = c.args.task.now in
    let window = c.args.window.now in
    let level = c.args.level.now in
    if_ok (λ (s : SubTask). s ≡ subtask_from (around task window c.as_slice.result.now c.in-Block.order) level.certain level.mentioned (carried_cost task window)) (λ (s : SubTask). s ≡ subtask_of task c.args.tree.now window) c.pose.result c.pose.ensures (λ s e.
    posed task c.args.tree.now window c.args.level.now.node.now (node_at c.args.tree.now c.args.window.now c.args.level.now c.requires.own c.requires.level.node) c.in-Block.id c.in-Block.kids c.as_slice.result.now c.in-Block.order c.in-Block.is c.as_slice.ensures level c.requires.level c.requires.own s e)
