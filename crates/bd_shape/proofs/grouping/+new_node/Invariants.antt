use Rattle.std.proofs.Common.{◌≡◌, ◌++◌, drop, map}
use Rattle.bd_tree.specs.declared.node.Node.{Node}
use Rattle.bd_shape.specs.Grouped.{grouped_block}
use Rattle.bd_shape.specs.Remade.{remade}
use Rattle.bd_shape.proofs.grouping.+new_node.Given as goal

abbrev pub invariant-loop-kid : goal.invariant-loop-kid
invariant-loop-kid l = l.copies.items ++ map (λ (k : Node). remade k l.block (grouped_block l.block l.ids l.fresh)) (drop l.kid-index l.kids) ≡ map (λ (k : Node). remade k l.block (grouped_block l.block l.ids l.fresh)) l.kids
