use Rattle.bd_shape.proofs.HullLemmas.{hull_alone}
use Rattle.bd_shape.proofs.hulls.hull.Goals as goal

pub returns-clause-alone : goal.returns-clause-alone
returns-clause-alone c = hull_alone c.args.block.now c.args.i c.args.j
