use Rattle.std.proofs.Common.{◌≡◌, max, map, drop}
use Rattle.bd_tree.specs.Tree.{ids_of, greatest, joined}
use Rattle.bd_tree.proofs.node.Node.+top_id.Given as goal

abbrev pub invariant-loop-kid : goal.invariant-loop-kid
invariant-loop-kid l = max l.most (greatest (joined (map ids_of (drop l.kid-index l.kid-items)))) ≡ greatest (ids_of l.self)
