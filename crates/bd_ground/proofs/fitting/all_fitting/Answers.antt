use Rattle.std.proofs.Common.{ℕ, Vec, Global}
use Rattle.bd_ground.specs.Offers.{fitting}
use Rattle.bd_ground.proofs.FittingLemmas.{lists-next}
use Rattle.bd_ground.proofs.fitting.all_fitting.Goals as goal

pub loop-kind-preserved : goal.loop-kind-preserved
loop-kind-preserved c =
    lists-next (λ (xs : Vec ℕ Global). xs.items) (λ k. fitting c.args.domain.now c.args.problem.now k) c.loop-kind.lists.items c.push.new.self.items c.in_ok-fitting.field-0 c.loop-kind.kind c.loop-kind.invariant c.in_ok-push.ensures.items c.in_ok-fitting.ensures
