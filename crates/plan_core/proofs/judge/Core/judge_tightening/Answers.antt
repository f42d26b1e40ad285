use Rattle.std.proofs.Common.{◌≡◌, length, Some, sym, ap, ◌∙◌}
use Rattle.bd_task.specs.TaskView.{TaskView}
use Rattle.bd_links.specs.Sound.{are_below, first_fault}
use Rattle.plan_core.specs.Replies.{IsMade}
use Rattle.plan_core.proofs.AcceptLemmas.{fault_refuses, made_in_range, made_small}
use Rattle.plan_core.proofs.judge.Core.judge_tightening.Goals as goal

pub test_tightened-requires : goal.test_tightened-requires
test_tightened-requires c =
    let made : IsMade c.args.self.now c.args.block c.args.left.now c.args.right.now c.in_ok-tree.tree = c.in_ok-tree.ensures.makes in
    made_small c.args.self.now c.args.block c.args.left.now c.args.right.now c.in_ok-tree.tree made c.keeps.ensures.room

pub check-requires : goal.check-requires
check-requires c =
    let core = c.args.self.now in
    let made : IsMade core c.args.block c.args.left.now c.args.right.now c.in_ok-tree.tree = c.in_ok-tree.ensures.makes in
    ap (λ (t : TaskView). are_below (length t.actions) c.in_ok-tree.tree) c.task.ensures ∙ made_in_range core c.args.block c.args.left.now c.args.right.now c.in_ok-tree.tree made c.keeps.ensures.room

pub returns-in-Some-clause-judges : goal.returns-in-Some-clause-judges
returns-in-Some-clause-judges c =
    let core = c.args.self.now in
    let made : IsMade core c.args.block c.args.left.now c.args.right.now c.in_ok-tree.tree = c.in_ok-tree.ensures.makes in
    let fault : first_fault core.task c.in_ok-tree.tree ≡ Some c.in-Some.fault = sym (c.in_ok-fault.ensures.first ∙ ap (λ t. first_fault t c.in_ok-tree.tree) c.task.ensures) ∙ c.in-Some.is in
    fault_refuses core c.args.block c.args.left.now c.args.right.now c.in_ok-tree.tree made c.in-Some.fault c.in_ok-test_tightened.ensures.tests.0 c.in_ok-test_tightened.ensures.tests.1 fault
