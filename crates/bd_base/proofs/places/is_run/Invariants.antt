use Rattle.std.proofs.Common.{◌≡◌, ◌*◌, ◌-◌, min, take}
use Rattle.bd_base.specs.Bits.{row_of, upto}
use Rattle.bd_base.proofs.places.is_run.Given as goal

abbrev pub invariant-loop-w : goal.invariant-loop-w
invariant-loop-w l = row_of 0 (take l.w l.words) ≡ upto l.from (min (64 * l.w) l.to - l.from)
