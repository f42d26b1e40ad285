use Rattle.std.proofs.Common.{◌≡◌, map, drop}
use Rattle.pddl_form.specs.Things.{put_things}
use Rattle.pddl_form.specs.Sight.{named_of, table_of}
use Rattle.pddl_form.proofs.things.put_things.Given as goal

abbrev pub invariant-loop-name : goal.invariant-loop-name
invariant-loop-name l = put_things l.kind (map named_of (drop l.name-index l.names)) (table_of l.table) ≡ put_things l.kind (map named_of l.names) (table_of l.initial.table)
