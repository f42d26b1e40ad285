use Rattle.std.proofs.Common.{◌≡◌, map}
use Rattle.bd_base.specs.Bits.{upto}
use Rattle.bd_ground.specs.Offers.{fitting}
use Rattle.bd_ground.proofs.fitting.all_fitting.Given as goal

abbrev pub invariant-loop-kind : goal.invariant-loop-kind
invariant-loop-kind l = map (λ xs. xs.items) l.lists.items ≡ map (λ k. fitting l.domain l.problem k) (upto 0 l.kind)
