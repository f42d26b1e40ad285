use Rattle.std.proofs.Common.{◌≡◌, length}
use Rattle.bd_base.specs.Pairs.{after_of}
use Rattle.bd_base.proofs.row.first_after.Given as goal

abbrev pub invariant-loop-first : goal.invariant-loop-first
invariant-loop-first l = after_of l.left l.i ≡ after_of l.pairs l.i

abbrev pub decreases-loop-first : goal.decreases-loop-first
decreases-loop-first l = length l.left
