use Rattle.std.proofs.Common.{◌≡◌, map, drop}
use Rattle.pddl_form.specs.Names.{names_from}
use Rattle.plan_text.proofs.calls.add_names.Given as goal

abbrev pub invariant-loop-t : goal.invariant-loop-t
invariant-loop-t l = names_from l.names (map (λ t. t.name) (drop l.t-index l.things)) ≡ names_from l.initial.names (map (λ t. t.name) l.things)
