use Rattle.std.proofs.Common.{◌≡◌, length, Some, sym, ap, ◌∙◌}
use Rattle.bd_task.specs.TaskView.{TaskView}
use Rattle.bd_tree.specs.declared.node.Node.{Node}
use Rattle.bd_links.specs.Sound.{are_below, first_fault}
use Rattle.plan_core.specs.Rebuilt.{rebuilt}
use Rattle.plan_core.specs.Replies.{IsInOrder, rebuilt_in}
use Rattle.plan_core.proofs.RangeLemmas.{rebuilt_below}
use Rattle.plan_core.proofs.judge.Core.judge_rebuild.Goals as goal

pub check-requires : goal.check-requires
check-requires c =
    let core = c.args.self.now in
    let order = c.args.order.now in
    let is : c.in_ok-tree.tree ≡ rebuilt_in core order = c.in_ok-tree.ensures ∙ ap (λ (t : Node). rebuilt t order) c.tree.ensures.tree in
    ap (λ (t : TaskView). are_below (length t.actions) c.in_ok-tree.tree) c.task.ensures ∙ ap (are_below (length core.task.actions)) is ∙ rebuilt_below (length core.task.actions) core.tree order c.keeps.ensures.room.in_range

pub returns-in-Some-clause-judges : goal.returns-in-Some-clause-judges
returns-in-Some-clause-judges c =
    let core = c.args.self.now in
    let order = c.args.order.now in
    let ready : IsInOrder core order = c.in_ok-test_rebuild.ensures.tests in
    let is : c.in_ok-tree.tree ≡ rebuilt_in core order = c.in_ok-tree.ensures ∙ ap (λ (t : Node). rebuilt t order) c.tree.ensures.tree in
    let fault : first_fault core.task (rebuilt_in core order) ≡ Some c.in-Some.fault = sym (c.in_ok-fault.ensures.first ∙ ap (λ t. first_fault t c.in_ok-tree.tree) c.task.ensures ∙ ap (first_fault core.task) is) ∙ c.in-Some.is in
    (ready.is_open, ready.due, ready.orderly, fault)
