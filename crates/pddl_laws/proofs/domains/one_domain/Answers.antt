use Rattle.pddl_laws.proofs.WholeLemmas.{domain_one}
use Rattle.pddl_laws.proofs.domains.one_domain.Goals as goal

pub returns : goal.returns
returns args = λ tree a b h k. domain_one tree a b h k
