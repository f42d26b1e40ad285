use Rattle.pddl_laws.proofs.TypesLemmas.{types_spelled}
use Rattle.pddl_laws.proofs.TypesReadLemmas.{types_read}
use Rattle.pddl_laws.proofs.domains.types_law.Goals as goal

pub returns : goal.returns
returns args = λ place items t. (types_spelled place items t, types_read place items t)
