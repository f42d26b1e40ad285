use Rattle.pddl_laws.proofs.EffectLemmas.{effect_read, effect_spelled}
use Rattle.pddl_laws.proofs.domains.effect_law.Goals as goal

pub returns : goal.returns
returns args = λ scope predicates functions tree e. (effect_spelled scope predicates functions tree e, effect_read scope predicates functions tree e)
