use Rattle.std.proofs.Common.{◌≡◌, ◌+◌, ◌*◌, ◌≤◌, map, length, true, drop}
use Rattle.std.specs.List.{list_all}
use Rattle.bd_task.specs.Valid.{cost_of}
use Rattle.bd_tree.specs.Tree.{nodes_of, listed_of, total, joined}
use Rattle.bd_links.specs.Sound.{are_below}
use Rattle.bd_links.proofs.whole.+node_cost.Given as goal

abbrev pub invariant-loop-kid : goal.invariant-loop-kid
invariant-loop-kid l = record {
  below : list_all (λ b. b) (map (are_below (length l.task.actions)) (drop l.kid-index l.kid-items)) ≡ true;
  cost : l.sum + cost_of l.task (joined (map listed_of (drop l.kid-index l.kid-items))) ≡ cost_of l.task (listed_of l.node);
  most : l.sum + 1_000_000_000 * (1 + total (map nodes_of (drop l.kid-index l.kid-items))) ≤ 1_000_000_000 * nodes_of l.node;
}
