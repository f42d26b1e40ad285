use Rattle.std.proofs.Common.{◌≡◌, [], drop}
use Rattle.bd_base.specs.Facts.{plus}
use Rattle.bd_ground.proofs.singles.set_by_each.Given as goal

abbrev pub invariant-loop-n : goal.invariant-loop-n
invariant-loop-n l = plus l.set (drop l.n-index l.ids) ≡ plus [] l.ids
