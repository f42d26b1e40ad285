use Rattle.pddl_form.proofs.NameLemmas.{absent, added_last}
use Rattle.pddl_form.proofs.names.Names.add.Goals as goal

pub returns : goal.returns
returns c = added_last _ _ _ _ _ c.in_ok-declare.ensures.told (absent c.args.name.now _ c.requires) c.in_ok-declare.ensures.ok
