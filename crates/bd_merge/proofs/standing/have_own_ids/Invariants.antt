use Rattle.std.proofs.Common.{◌≡◌, drop, map}
use Rattle.bd_tree.specs.Tree.{id_of}
use Rattle.bd_tree.specs.WellFormed.{are_distinct}
use Rattle.bd_merge.proofs.standing.have_own_ids.Given as goal

abbrev pub invariant-loop-node : goal.invariant-loop-node
invariant-loop-node l = (l.rest ≡ drop l.node-index l.nodes) × (are_distinct (map id_of l.rest) ≡ are_distinct (map id_of l.nodes))
