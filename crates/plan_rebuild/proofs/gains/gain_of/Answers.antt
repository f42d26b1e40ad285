use Rattle.plan_rebuild.proofs.GainLemmas.{gain_told}
use Rattle.plan_rebuild.proofs.gains.gain_of.Goals as goal

pub returns-clause-some : goal.returns-clause-some
returns-clause-some c =
    gain_told c.args.core.now c.args.span c.task.result.now c.tree.result.now c.next.result c.keeps.ensures c.requires c.ranges.span.fits c.task.ensures c.tree.ensures.tree c.next.ensures.candidate c.next.ensures.qualifies
