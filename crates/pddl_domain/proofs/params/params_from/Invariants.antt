use Rattle.std.proofs.Common.{◌≡◌, drop, false}
use Rattle.pddl_domain.specs.Params.{params_from}
use Rattle.pddl_form.specs.Things.{no_rows}
use Rattle.pddl_form.specs.Sight.{table_of}
use Rattle.pddl_domain.proofs.params.params_from.Given as goal

abbrev pub invariant-loop-item : goal.invariant-loop-item
invariant-loop-item l = params_from l.types l.place l.waiting (table_of l.table) (drop l.item-index l.items) ≡ params_from l.types l.place false no_rows l.items
