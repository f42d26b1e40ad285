use Rattle.std.proofs.Common.{◌≡◌, ◌↔◌, drop}
use Rattle.bd_tree.proofs.node.Node.+same.Given as goal

abbrev pub invariant-loop-kid : goal.invariant-loop-kid
invariant-loop-kid l = (drop l.kid-index l.kid-items ≡ l.rest) ↔ (l.self ≡ l.other)
