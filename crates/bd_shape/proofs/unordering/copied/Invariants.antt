use Rattle.std.proofs.Common.{◌≡◌, ◌++◌, drop}
use Rattle.bd_shape.proofs.unordering.copied.Given as goal

abbrev pub invariant-loop-kid : goal.invariant-loop-kid
invariant-loop-kid l = l.copies.items ++ drop l.kid-index l.kids ≡ l.kids
