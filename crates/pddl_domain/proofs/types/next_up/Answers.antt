use Rattle.pddl_domain.proofs.SkipLemmas.{one_up}
use Rattle.pddl_domain.proofs.types.next_up.Goals as goal

pub returns-in-None : goal.returns-in-None
returns-in-None c = one_up c.args.parents.now c.args.k c.parent_at-in-None.result c.parent_at-in-None.ensures
