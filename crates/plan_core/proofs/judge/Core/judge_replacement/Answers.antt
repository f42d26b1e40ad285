use Rattle.std.proofs.Common.{◌≡◌, length, Some, sym, ap, ◌∙◌, subst, arith}
use Rattle.bd_task.specs.TaskView.{TaskView}
use Rattle.bd_tree.specs.Tree.{nodes_of}
use Rattle.bd_links.specs.Sound.{are_below, first_fault}
use Rattle.bd_merge.specs.Merged.{merged}
use Rattle.bd_merge.specs.Stands.{Stands}
use Rattle.bd_merge.specs.declared.standing.Found.TheVariants as found
use Rattle.plan_core.specs.Replies.{IsWorthy, merged_in}
use Rattle.plan_core.proofs.CoreLemmas.{list_short, merged_in_range}
use Rattle.plan_core.proofs.judge.Core.judge_replacement.Goals as goal

pub merged-requires-clause-stands : goal.merged-requires-clause-stands
merged-requires-clause-stands c =
    let worthy : IsWorthy c.args.self.now c.args.window.now c.args.list.now = c.in_ok-test_replacement.ensures.tests in
    subst (λ t. Stands t c.args.window.now found.At) (sym c.tree.ensures.tree) worthy.stands

pub merged-requires-clause-few : goal.merged-requires-clause-few
merged-requires-clause-few c =
    let worthy : IsWorthy c.args.self.now c.args.window.now c.args.list.now = c.in_ok-test_replacement.ensures.tests in
    let room = c.keeps.ensures.room in
    omega (arith, ap nodes_of c.tree.ensures.tree, room.few, room.short, list_short c.args.self.now c.args.window.now c.args.list.now room worthy.stands worthy.short)

pub check-requires : goal.check-requires
check-requires c =
    let core = c.args.self.now in
    let window = c.args.window.now in
    let list = c.args.list.now in
    let worthy : IsWorthy core window list = c.in_ok-test_replacement.ensures.tests in
    let is : c.in_ok-tree.tree ≡ merged_in core window list = c.in_ok-tree.ensures.tree ∙ ap (λ t. merged t window list c.next.result) c.tree.ensures.tree ∙ ap (λ n. merged core.tree window list n) c.next.ensures in
    ap (λ (t : TaskView). are_below (length t.actions) c.in_ok-tree.tree) c.task.ensures ∙ ap (are_below (length core.task.actions)) is ∙ merged_in_range core window list c.keeps.ensures.room worthy.stands worthy.known

pub returns-in-Some-clause-judges : goal.returns-in-Some-clause-judges
returns-in-Some-clause-judges c =
    let core = c.args.self.now in
    let window = c.args.window.now in
    let list = c.args.list.now in
    let worthy : IsWorthy core window list = c.in_ok-test_replacement.ensures.tests in
    let is : c.in_ok-tree.tree ≡ merged_in core window list = c.in_ok-tree.ensures.tree ∙ ap (λ t. merged t window list c.next.result) c.tree.ensures.tree ∙ ap (λ n. merged core.tree window list n) c.next.ensures in
    let fault : first_fault core.task (merged_in core window list) ≡ Some c.in-Some.fault = sym (c.in_ok-fault.ensures.first ∙ ap (λ t. first_fault t c.in_ok-tree.tree) c.task.ensures ∙ ap (first_fault core.task) is) ∙ c.in-Some.is in
    (worthy.is_open, worthy.known, worthy.stands, worthy.cheaper, worthy.short, fault)
