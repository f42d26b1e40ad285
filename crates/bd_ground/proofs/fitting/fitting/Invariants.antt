use Rattle.std.proofs.Common.{◌≡◌, filter}
use Rattle.bd_base.specs.Bits.{upto}
use Rattle.bd_ground.specs.Instances.{things_of, fits}
use Rattle.bd_ground.proofs.fitting.fitting.Given as goal

abbrev pub invariant-loop-o : goal.invariant-loop-o
invariant-loop-o l = l.xs.items ≡ filter (λ o. fits l.domain.types (things_of l.domain l.problem) l.kind o) (upto 0 l.o)
