use Rattle.pddl_laws.proofs.FunctionLemmas.{functions_complete, functions_spelled}
use Rattle.pddl_laws.proofs.domains.functions_law.Goals as goal

pub returns : goal.returns
returns args = λ place items table. (functions_spelled place items table, functions_complete place items table)
