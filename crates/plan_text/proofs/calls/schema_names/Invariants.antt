use Rattle.std.proofs.Common.{◌≡◌, map, drop, []}
use Rattle.pddl_form.specs.Names.{names_from}
use Rattle.plan_text.proofs.calls.schema_names.Given as goal

abbrev pub invariant-loop-s : goal.invariant-loop-s
invariant-loop-s l = names_from l.names (map (λ s. s.name) (drop l.s-index l.schemas)) ≡ names_from [] (map (λ s. s.name) l.schemas)
