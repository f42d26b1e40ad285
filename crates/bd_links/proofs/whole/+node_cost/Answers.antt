use Rattle.std.proofs.Common.{◌≡◌, ℕ, ◌+◌, List, map, drop, sym, ap, ◌∙◌, length, arith}
use Rattle.bd_task.specs.Valid.{cost_of}
use Rattle.bd_tree.specs.Tree.{nodes_of, listed_of, total, joined}
use Rattle.bd_tree.specs.declared.node.Node.{Node}
use Rattle.bd_links.specs.Sound.{are_below}
use Rattle.bd_links.proofs.Steps.{drop-at, cost_of-append, all-drop-next}
use Rattle.bd_links.proofs.whole.+node_cost.Goals as goal

pub loop-kid-preserved : goal.loop-kid-preserved
loop-kid-preserved t c =
    let task = c.args.task.now in
    let kids = c.as_slice-kid-items.result.now in
    let i = c.loop-kid.kid-index in
    let kid = c.kid-item.result in
    let rest = drop (i + 1) kids in
    let left = drop-at kids i kid c.loop-kid-test.true c.kid-item.is in
    let listed : cost_of task (joined (map listed_of (drop i kids))) ≡ c.node_cost-sum.result + cost_of task (joined (map listed_of rest)) =
    ap (λ (z : List Node). cost_of task (joined (map listed_of z))) left ∙ cost_of-append task (listed_of kid) (joined (map listed_of rest))
    ∙ ap (λ (n : ℕ). n + cost_of task (joined (map listed_of rest))) (sym c.node_cost-sum.ensures.cost) in
    let nodes : total (map nodes_of (drop i kids)) ≡ nodes_of kid + total (map nodes_of rest) = ap (λ (z : List Node). total (map nodes_of z)) left in
    record {
      below = all-drop-next (are_below (length task.actions)) kids i kid c.loop-kid-test.true c.kid-item.is c.loop-kid.invariant.below;
      cost = omega (arith, listed, c.loop-kid.invariant.cost);
      most = omega (arith, nodes, c.loop-kid.invariant.most, c.node_cost-sum.ensures.at_most);
    }
