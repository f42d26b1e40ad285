use Rattle.std.proofs.Common.{◌≡◌, drop, false}
use Rattle.pddl_domain.specs.Heads.{functions_from}
use Rattle.pddl_form.specs.Things.{no_rows}
use Rattle.pddl_form.specs.Sight.{table_of}
use Rattle.pddl_domain.proofs.heads.functions_at.Given as goal

abbrev pub invariant-loop-item : goal.invariant-loop-item
invariant-loop-item l = functions_from l.place l.waiting l.fresh (table_of l.table) (drop l.item-index l.items) ≡ functions_from l.place false false no_rows l.items
