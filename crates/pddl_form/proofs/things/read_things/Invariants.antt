use Rattle.std.proofs.Common.{◌≡◌, length}
use Rattle.pddl_form.specs.Things.{things_from}
use Rattle.pddl_form.specs.Sight.{table_of, left}
use Rattle.pddl_form.proofs.things.read_things.Given as goal

abbrev pub invariant-loop-table : goal.invariant-loop-table
invariant-loop-table l = things_from l.types (table_of l.table) (left l.rest) ≡ things_from l.types (table_of l.initial.table) (left l.list)

abbrev pub decreases-loop-table : goal.decreases-loop-table
decreases-loop-table l = length (left l.rest)
