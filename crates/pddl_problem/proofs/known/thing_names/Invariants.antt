use Rattle.std.proofs.Common.{◌≡◌, map, drop, []}
use Rattle.pddl_form.specs.Names.{names_from}
use Rattle.pddl_problem.proofs.known.thing_names.Given as goal

abbrev pub invariant-loop-t : goal.invariant-loop-t
invariant-loop-t l = names_from l.names (map (λ t. t.name) (drop l.t-index l.things)) ≡ names_from [] (map (λ t. t.name) l.things)
