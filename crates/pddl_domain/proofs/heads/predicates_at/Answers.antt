use Rattle.pddl_form.specs.Sight.{table_of}
use Rattle.pddl_domain.proofs.HeadLemmas.{predicates_say}
use Rattle.pddl_domain.proofs.heads.predicates_at.Goals as goal

pub returns-clause-spelled : goal.returns-clause-spelled
returns-clause-spelled c = predicates_say table_of c.args.items.now _ c.read_predicates.ensures
