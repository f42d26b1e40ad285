use Rattle.std.proofs.Common.{◌≡◌, drop, []}
use Rattle.pddl_form.specs.Terms.{terms_at}
use Rattle.pddl_form.specs.Sight.{scope_of}
use Rattle.pddl_form.proofs.terms.terms_at.Given as goal

abbrev pub invariant-loop-item : goal.invariant-loop-item
invariant-loop-item l = terms_at (scope_of l.scope) l.terms.items (drop l.item-index l.items) ≡ terms_at (scope_of l.scope) [] l.items
