use Rattle.std.proofs.Common.{◌≡◌, ℕ, ◌+◌, List, map, drop, sym, ap, ◌∙◌, length, arith}
use Rattle.bd_task.specs.Valid.{cost_of}
use Rattle.bd_tree.specs.Tree.{nodes_of, listed_of, total, joined}
use Rattle.bd_tree.specs.declared.node.Node.{Node}
use Rattle.bd_links.specs.Sound.{are_below}
use Rattle.bd_links.proofs.Steps.{drop-at, cost_of-append, all-drop-next}
use Rattle.plan_core.proofs.replace.cost_among.Goals as goal

pub loop-node-preserved : goal.loop-node-preserved
loop-node-preserved c =
    let task = c.args.task.now in
    let nodes = c.args.nodes.now in
    let i = c.loop-node.node-index in
    let node = c.node-item.result in
    let rest = drop (i + 1) nodes in
    let left = drop-at nodes i node c.loop-node-test.true c.node-item.is in
    let listed : cost_of task (joined (map listed_of (drop i nodes))) ≡ c.node_cost-sum.result + cost_of task (joined (map listed_of rest)) =
    ap (λ (z : List Node). cost_of task (joined (map listed_of z))) left ∙ cost_of-append task (listed_of node) (joined (map listed_of rest))
    ∙ ap (λ (n : ℕ). n + cost_of task (joined (map listed_of rest))) (sym c.node_cost-sum.ensures.cost) in
    let counted : total (map nodes_of (drop i nodes)) ≡ nodes_of node + total (map nodes_of rest) = ap (λ (z : List Node). total (map nodes_of z)) left in
    record {
      below = all-drop-next (are_below (length task.actions)) nodes i node c.loop-node-test.true c.node-item.is c.loop-node.invariant.below;
      cost = omega (arith, listed, c.loop-node.invariant.cost);
      most = omega (arith, counted, c.loop-node.invariant.most, c.node_cost-sum.ensures.at_most);
    }
