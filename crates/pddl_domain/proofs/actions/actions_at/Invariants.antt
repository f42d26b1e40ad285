use Rattle.std.proofs.Common.{◌≡◌, map, drop, []}
use Rattle.pddl_domain.specs.Actions.{actions_from}
use Rattle.pddl_form.specs.Sight.{headed_of}
use Rattle.pddl_domain.specs.Sight.{declared_of}
use Rattle.pddl_domain.proofs.actions.actions_at.Given as goal

abbrev pub invariant-loop-action : goal.invariant-loop-action
invariant-loop-action l = actions_from (declared_of l.declared) l.names l.schemas.items (map headed_of (drop l.action-index l.declared.actions.items)) ≡ actions_from (declared_of l.declared) [] [] (map headed_of l.declared.actions.items)
