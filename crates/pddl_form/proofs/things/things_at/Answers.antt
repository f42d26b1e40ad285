use Rattle.std.proofs.Common.{subst, false}
use Rattle.pddl_form.specs.Fault.{Gives}
use Rattle.pddl_form.specs.Groups.{groups}
use Rattle.pddl_form.specs.Things.{Table, things_from}
use Rattle.pddl_form.specs.Sight.{table_of}
use Rattle.pddl_form.proofs.ThingLemmas.{things_say}
use Rattle.pddl_form.proofs.things.things_at.Goals as goal

pub returns-clause-spelled : goal.returns-clause-spelled
returns-clause-spelled c =
    let P : Table → Type 0 = λ t. Gives table_of c.more_things.result (things_from c.args.types.now t (groups false c.args.place c.args.items.now)) in
    things_say table_of c.args.types.now c.args.place c.args.items.now c.more_things.result (subst P c.new.ensures c.more_things.ensures)
