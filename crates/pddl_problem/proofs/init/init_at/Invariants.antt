use Rattle.std.proofs.Common.{◌≡◌, drop}
use Rattle.pddl_form.specs.Sight.{scope_of, table_of}
use Rattle.pddl_problem.specs.Init.{no_init, init_from}
use Rattle.pddl_problem.specs.Sight.{init_of}
use Rattle.pddl_problem.proofs.init.init_at.Given as goal

abbrev pub invariant-loop-item : goal.invariant-loop-item
invariant-loop-item l = init_from (scope_of l.scope) (table_of l.predicates) (table_of l.functions) (init_of l.init) (drop l.item-index l.items) ≡ init_from (scope_of l.scope) (table_of l.predicates) (table_of l.functions) no_init l.items
