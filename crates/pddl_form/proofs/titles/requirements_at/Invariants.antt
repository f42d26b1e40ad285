use Rattle.std.proofs.Common.{◌≡◌, drop}
use Rattle.pddl_form.specs.Titles.{requirements_at}
use Rattle.pddl_form.proofs.titles.requirements_at.Given as goal

abbrev pub invariant-loop-item : goal.invariant-loop-item
invariant-loop-item l = requirements_at (drop l.item-index l.items) ≡ requirements_at l.items
