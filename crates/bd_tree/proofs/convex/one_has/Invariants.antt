use Rattle.std.proofs.Common.{◌≡◌, map, drop}
use Rattle.bd_base.specs.Facts.{has}
use Rattle.bd_tree.specs.Tree.{id_of}
use Rattle.bd_tree.proofs.convex.one_has.Given as goal

abbrev pub invariant-loop-node : goal.invariant-loop-node
invariant-loop-node l = has (map id_of (drop l.node-index l.nodes)) l.id ≡ has (map id_of l.nodes) l.id
