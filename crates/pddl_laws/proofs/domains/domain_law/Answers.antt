use Rattle.pddl_laws.proofs.WholeLemmas.{domain_read, domain_spelled}
use Rattle.pddl_laws.proofs.domains.domain_law.Goals as goal

pub returns : goal.returns
returns args = λ tree d. (domain_spelled tree d, domain_read tree d)
