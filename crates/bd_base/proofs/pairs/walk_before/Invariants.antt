use Rattle.std.proofs.Common.{◌≡◌, []}
use Rattle.bd_base.specs.Facts.{plus}
use Rattle.bd_base.specs.Pairs.{before_of}
use Rattle.bd_base.proofs.pairs.walk_before.Given as goal

abbrev pub invariant-loop-p : goal.invariant-loop-p
invariant-loop-p l = plus l.row (before_of l.p-iterator l.j) ≡ plus [] (before_of l.order l.j)
