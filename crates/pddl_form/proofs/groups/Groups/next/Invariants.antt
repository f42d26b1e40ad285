use Rattle.std.proofs.Common.{◌≡◌, map, length, false}
use Rattle.pddl_form.specs.Groups.{groups_from}
use Rattle.pddl_form.specs.Sight.{named_of, left}
use Rattle.pddl_form.proofs.groups.Groups.next.Given as goal

abbrev pub invariant-loop-item : goal.invariant-loop-item
invariant-loop-item l = groups_from l.self.variables l.self.place false (map named_of l.names.items) l.items ≡ left l.self

abbrev pub decreases-loop-item : goal.decreases-loop-item
decreases-loop-item l = length l.items
