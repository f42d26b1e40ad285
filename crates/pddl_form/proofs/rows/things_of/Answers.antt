use Rattle.pddl_form.proofs.TableLemmas.{things_end}
use Rattle.pddl_form.proofs.rows.things_of.Goals as goal

pub returns-in-None : goal.returns-in-None
returns-in-None c = things_end _ _ _ _ c.in-None.ensures.cases c.loop-name.invariant
