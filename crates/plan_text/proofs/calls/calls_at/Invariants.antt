use Rattle.std.proofs.Common.{◌≡◌, drop, []}
use Rattle.pddl_form.specs.Sight.{table_of}
use Rattle.plan_text.specs.Calls.{calls_from}
use Rattle.plan_text.proofs.calls.calls_at.Given as goal

abbrev pub invariant-loop-tree : goal.invariant-loop-tree
invariant-loop-tree l = calls_from (table_of l.actions) l.objects l.calls.items (drop l.tree-index l.trees) ≡ calls_from (table_of l.actions) l.objects [] l.trees
