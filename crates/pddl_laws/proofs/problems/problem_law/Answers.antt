use Rattle.pddl_laws.proofs.WholeLemmas.{problem_read, problem_spelled}
use Rattle.pddl_laws.proofs.problems.problem_law.Goals as goal

pub returns : goal.returns
returns args = λ d tree p. (problem_spelled d tree p, problem_read d tree p)
