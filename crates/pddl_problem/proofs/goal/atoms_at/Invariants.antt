use Rattle.std.proofs.Common.{◌≡◌, map, drop, []}
use Rattle.pddl_form.specs.Sight.{scope_of, table_of}
use Rattle.pddl_problem.specs.Goal.{atoms_from}
use Rattle.pddl_problem.proofs.goal.atoms_at.Given as goal

abbrev pub invariant-loop-part : goal.invariant-loop-part
invariant-loop-part l = atoms_from (scope_of l.scope) (table_of l.predicates) l.atoms.items (map (λ p. p.now) (drop l.part-index l.parts)) ≡ atoms_from (scope_of l.scope) (table_of l.predicates) [] (map (λ p. p.now) l.parts)
