use Rattle.pddl_laws.proofs.WholeLemmas.{problem_one}
use Rattle.pddl_laws.proofs.problems.one_problem.Goals as goal

pub returns : goal.returns
returns args = λ d tree a b h k. problem_one d tree a b h k
