use Rattle.bd_ground.specs.Instances.{things_of, fits}
use Rattle.bd_ground.proofs.FittingLemmas.{fitting-next}
use Rattle.bd_ground.proofs.fitting.fitting.Goals as goal

pub loop-o-preserved : goal.loop-o-preserved
loop-o-preserved c =
    let d = c.args.domain.now in
    let p = c.args.problem.now in
    fitting-next (λ o. fits d.types (things_of d p) c.args.kind o) c.loop-o.xs.items c.push_if.new.xs.items c.loop-o.o c.fits.result c.loop-o.invariant c.fits.ensures c.in_ok-push_if.ensures
