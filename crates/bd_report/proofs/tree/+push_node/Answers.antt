use Rattle.std.proofs.Common.{◌≡◌, ◌++◌, ℕ, List, [], map, drop, OnOk, sym, ap, ◌∙◌, subst, arith}
use Rattle.std.proofs.lemmas.List.{append-nil}
use Rattle.std.proofs.Math.ListN.{drop_of_length-le}
use Rattle.bd_tree.specs.declared.node.Node.{Node}
use Rattle.bd_tree.specs.Tree.{joined}
use Rattle.bd_links.specs.Sound.{child_of}
use Rattle.bd_report.specs.TreeText.{inner, node_lines, order_lines}
use Rattle.bd_report.proofs.LineLemmas.{block_put, lines-Step, on_ok}
use Rattle.bd_report.proofs.tree.«+push_node».Goals as goal

pub returns-in-Step : goal.returns-in-Step
returns-in-Step t c =
    subst (λ (z : List ℕ). OnOk c.push_step.result (c.push_step.new.text.items ≡ c.args.text.now.items ++ z))
    (sym (ap (λ (n : Node). node_lines c.args.task.now n c.args.margin.now) c.in-Step.is ∙ lines-Step c.args.task.now c.in-Step.id c.in-Step.action c.args.margin.now)) c.push_step.ensures

pub returns-after-loop-kid : goal.returns-after-loop-kid
returns-after-loop-kid t c =
    let task = c.args.task.now in
    let margin = c.args.margin.now in
    let items = c.as_slice-kid-items.result.now in
    let order = c.in-Block.order in
    let full : List ℕ = c.loop-kid.text.items in
    let body : List Node → List ℕ = λ ks. joined (map (λ k. node_lines task k (inner margin)) ks) in
    let done : drop c.loop-kid.kid-index items ≡ [] = drop_of_length-le items (omega (arith, c.loop-kid-test.false)) in
    let put = sym (append-nil full) ∙ ap (λ (ks : List Node). full ++ body ks) (sym done) ∙ c.loop-kid.invariant.put in
    on_ok _ _ c.push_order.result
    (λ n.
    block_put task margin c.in-Block.id c.in-Block.kids order c.args.node.now c.in-Block.is items c.as_slice-kid-items.ensures c.args.text.now.items c.push_block.new.text.items full c.push_order.new.text.items
    c.in_ok-push_block-in-Block.ensures put
    (n ∙ ap (λ (m : List ℕ). full ++ order_lines task m (map (child_of task.actions) c.as_slice.result.now) order) (c.deref-in-Block.ensures.value ∙ c.in_ok-deeper-in-Block.ensures)
    ∙ ap (λ (ks : List Node). full ++ order_lines task (inner margin) (map (child_of task.actions) ks) order) (c.as_slice.ensures ∙ sym c.as_slice-kid-items.ensures)))
    c.push_order.ensures
