use Rattle.std.proofs.Common.{◌≡◌, ◌+◌, ◌*◌, ◌≤◌, map, length, true, drop}
use Rattle.std.specs.List.{list_all}
use Rattle.bd_task.specs.Valid.{cost_of}
use Rattle.bd_tree.specs.Tree.{nodes_of, listed_of, total, joined}
use Rattle.bd_links.specs.Sound.{are_below}
use Rattle.plan_core.proofs.replace.cost_among.Given as goal

abbrev pub invariant-loop-node : goal.invariant-loop-node
invariant-loop-node l = record {
  below : list_all (λ b. b) (map (are_below (length l.task.actions)) (drop l.node-index l.nodes)) ≡ true;
  cost : l.sum + cost_of l.task (joined (map listed_of (drop l.node-index l.nodes))) ≡ cost_of l.task (joined (map listed_of l.nodes));
  most : l.sum + 1_000_000_000 * total (map nodes_of (drop l.node-index l.nodes)) ≤ 1_000_000_000 * total (map nodes_of l.nodes);
}
