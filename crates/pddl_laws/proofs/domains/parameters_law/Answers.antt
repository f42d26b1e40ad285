use Rattle.pddl_laws.proofs.ParamLemmas.{params_field_read, params_field_spelled}
use Rattle.pddl_laws.proofs.domains.parameters_law.Goals as goal

pub returns : goal.returns
returns args = λ types field params. (params_field_spelled types field params, params_field_read types field params)
