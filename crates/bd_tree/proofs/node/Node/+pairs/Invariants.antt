use Rattle.std.proofs.Common.{◌≡◌, ◌+◌, ◌<◌, ◌^◌, true, map, drop}
use Rattle.std.specs.List.{list_all}
use Rattle.bd_tree.specs.Tree.{pairs_of, nodes_of, total}
use Rattle.bd_tree.specs.WellFormed.{has_orders}
use Rattle.bd_tree.proofs.node.Node.+pairs.Given as goal

abbrev pub invariant-loop-kid : goal.invariant-loop-kid
invariant-loop-kid l = (l.sum + total (map pairs_of (drop l.kid-index l.kid-items)) ≡ pairs_of l.self) × (total (map nodes_of (drop l.kid-index l.kid-items)) < 2 ^ 32) × (list_all (λ b. b) (map has_orders (drop l.kid-index l.kid-items)) ≡ true)
