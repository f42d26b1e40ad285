use Rattle.std.proofs.Common.{◌≡◌, drop}
use Rattle.pddl_domain.specs.Heads.{predicates_at}
use Rattle.pddl_form.specs.Things.{no_rows}
use Rattle.pddl_form.specs.Sight.{table_of}
use Rattle.pddl_domain.proofs.heads.read_predicates.Given as goal

abbrev pub invariant-loop-item : goal.invariant-loop-item
invariant-loop-item l = predicates_at (table_of l.table) (drop l.item-index l.items) ≡ predicates_at no_rows l.items
