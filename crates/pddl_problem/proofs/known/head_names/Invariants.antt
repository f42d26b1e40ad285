use Rattle.std.proofs.Common.{◌≡◌, map, drop, []}
use Rattle.pddl_form.specs.Names.{names_from}
use Rattle.pddl_problem.proofs.known.head_names.Given as goal

abbrev pub invariant-loop-h : goal.invariant-loop-h
invariant-loop-h l = names_from l.names (map (λ h. h.name) (drop l.h-index l.heads)) ≡ names_from [] (map (λ h. h.name) l.heads)
