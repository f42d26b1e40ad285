use Rattle.std.proofs.Common.{◌≡◌, ◌+◌, true, map, length}
use Rattle.std.specs.List.{list_all}
use Rattle.bd_tree.specs.Order.{is_within}
use Rattle.bd_tree.specs.Tree.{steps_of, products}
use Rattle.bd_tree.proofs.node.walked_pairs.Given as goal

abbrev pub invariant-loop-pair : goal.invariant-loop-pair
invariant-loop-pair l = (l.sum + products l.pair-iterator (map steps_of l.kids) ≡ products l.order (map steps_of l.kids)) × (list_all (is_within (length l.kids)) l.pair-iterator ≡ true)
