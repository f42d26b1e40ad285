use Rattle.pddl_form.proofs.TableLemmas.{heads_end}
use Rattle.pddl_form.proofs.rows.heads_of.Goals as goal

pub returns-in-None : goal.returns-in-None
returns-in-None c = heads_end _ _ _ _ c.in-None.ensures.cases c.loop-name.invariant
