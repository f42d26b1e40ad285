use Rattle.pddl_problem.proofs.ForLemmas.{read_for}
use Rattle.pddl_problem.proofs.whole.read_problem.Goals as goal

pub returns-clause-read : goal.returns-clause-read
returns-clause-read c = read_for c.args.domain.now c.args.tree.now c.read_within.result c.read_within.ensures.first c.read_within.ensures.short
