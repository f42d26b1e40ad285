use Rattle.pddl_laws.proofs.StatedLemmas.{metric_read, metric_spelled}
use Rattle.pddl_laws.proofs.problems.metric_law.Goals as goal

pub returns : goal.returns
returns args = λ functions section metric. (metric_spelled functions section metric, metric_read functions section metric)
