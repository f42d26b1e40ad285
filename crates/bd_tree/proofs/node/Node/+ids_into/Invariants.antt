use Rattle.std.proofs.Common.{◌≡◌, map, drop, ◌++◌}
use Rattle.bd_tree.specs.Tree.{ids_of, joined}
use Rattle.bd_tree.proofs.node.Node.+ids_into.Given as goal

abbrev pub invariant-loop-kid : goal.invariant-loop-kid
invariant-loop-kid l = l.ids.items ++ joined (map ids_of (drop l.kid-index l.kid-items)) ≡ l.fn.ids.items ++ ids_of l.self
