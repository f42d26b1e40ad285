use Rattle.pddl_laws.proofs.ActionLemmas.{actions_complete, actions_spelled}
use Rattle.pddl_laws.proofs.domains.actions_law.Goals as goal

pub returns : goal.returns
returns args = λ d hs schemas. (actions_spelled d hs schemas, actions_complete d hs schemas)
