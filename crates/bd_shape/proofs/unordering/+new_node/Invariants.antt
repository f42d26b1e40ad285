use Rattle.std.proofs.Common.{◌≡◌, ◌++◌, true, drop, map}
use Rattle.std.specs.List.{list_all}
use Rattle.bd_tree.specs.declared.node.Node.{Node}
use Rattle.bd_tree.specs.Tree.{ids_of}
use Rattle.bd_tree.specs.WellFormed.{are_distinct}
use Rattle.bd_shape.specs.Unordered.{unordered}
use Rattle.bd_shape.proofs.unordering.+new_node.Given as goal

abbrev pub invariant-loop-kid : goal.invariant-loop-kid
invariant-loop-kid l =
    (l.copies.items ++ map (λ (k : Node). unordered k l.block l.i l.j) (drop l.kid-index l.kids) ≡ map (λ (k : Node). unordered k l.block l.i l.j) l.kids)
    × (list_all (λ b. b) (map (λ (k : Node). are_distinct (ids_of k)) (drop l.kid-index l.kids)) ≡ true)
