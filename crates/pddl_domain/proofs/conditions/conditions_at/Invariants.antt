use Rattle.std.proofs.Common.{◌≡◌, map, drop}
use Rattle.pddl_domain.specs.Conditions.{none, conditions_at}
use Rattle.pddl_form.specs.Sight.{scope_of, table_of}
use Rattle.pddl_domain.specs.Sight.{condition_of}
use Rattle.pddl_domain.proofs.conditions.conditions_at.Given as goal

abbrev pub invariant-loop-part : goal.invariant-loop-part
invariant-loop-part l = conditions_at (scope_of l.scope) (table_of l.predicates) (condition_of l.condition) (map (λ p. p.now) (drop l.part-index l.parts)) ≡ conditions_at (scope_of l.scope) (table_of l.predicates) none (map (λ p. p.now) l.parts)
