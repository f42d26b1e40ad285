use Rattle.std.proofs.Common.{◌≡◌, ◌+◌, ◌-◌, ◌≤◌, ◌^◌, min, map, drop}
use Rattle.bd_tree.specs.Tree.{nodes_of, total}
use Rattle.bd_tree.proofs.node.Node.+nodes.Given as goal

abbrev pub invariant-loop-kid : goal.invariant-loop-kid
invariant-loop-kid l = record {
  counted : min (l.sum + total (map nodes_of (drop l.kid-index l.kid-items))) (2 ^ 64 - 1) ≡ min (nodes_of l.self) (2 ^ 64 - 1);
  fits : l.sum ≤ 2 ^ 64 - 1;
}
