use Rattle.pddl_laws.proofs.ConditionLemmas.{condition_read, condition_spelled}
use Rattle.pddl_laws.proofs.domains.condition_law.Goals as goal

pub returns : goal.returns
returns args = λ scope predicates tree c. (condition_spelled scope predicates tree c, condition_read scope predicates tree c)
