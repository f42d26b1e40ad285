use Rattle.pddl_laws.proofs.StatedLemmas.{goal_read, goal_spelled}
use Rattle.pddl_laws.proofs.problems.goal_law.Goals as goal

pub returns : goal.returns
returns args = λ scope predicates h atoms. (goal_spelled scope predicates h atoms, goal_read scope predicates h atoms)
