use Rattle.std.proofs.Common.{◌≡◌, ◌+◌, ◌++◌, ◌<◌, ◌^◌, true, drop, map, length}
use Rattle.std.specs.List.{list_all}
use Rattle.bd_tree.specs.declared.node.Node.{Node}
use Rattle.bd_tree.specs.Tree.{nodes_of, total}
use Rattle.bd_tree.specs.WellFormed.{has_orders}
use Rattle.bd_merge.specs.Merged.{merged}
use Rattle.bd_merge.proofs.merging.+new_node.Given as goal

abbrev pub invariant-loop-kid : goal.invariant-loop-kid
invariant-loop-kid l =
    (l.copies.items ++ map (λ (k : Node). merged k l.window l.list l.next) (drop l.kid-index l.kid-items) ≡ map (λ (k : Node). merged k l.window l.list l.next) l.kid-items)
    × (total (map nodes_of (drop l.kid-index l.kid-items)) + length l.list < 2 ^ 32)
    × (list_all (λ b. b) (map has_orders (drop l.kid-index l.kid-items)) ≡ true)
