use Rattle.pddl_laws.proofs.OutlineLemmas.{problem_outline_read, problem_outline_spelled}
use Rattle.pddl_laws.proofs.problems.problem_outline_law.Goals as goal

pub returns : goal.returns
returns args = λ tree b. (problem_outline_spelled tree b, problem_outline_read tree b)
