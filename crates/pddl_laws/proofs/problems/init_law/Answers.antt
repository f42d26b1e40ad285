use Rattle.pddl_laws.proofs.StatedLemmas.{stated_read, stated_spelled}
use Rattle.pddl_laws.proofs.problems.init_law.Goals as goal

pub returns : goal.returns
returns args = λ scope predicates functions items all. (stated_spelled scope predicates functions items all, stated_read scope predicates functions items all)
