use Rattle.pddl_laws.proofs.OutlineLemmas.{domain_outline_read, domain_outline_spelled}
use Rattle.pddl_laws.proofs.domains.domain_outline_law.Goals as goal

pub returns : goal.returns
returns args = λ tree o. (domain_outline_spelled tree o, domain_outline_read tree o)
