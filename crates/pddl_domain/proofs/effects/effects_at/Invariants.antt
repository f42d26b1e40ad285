use Rattle.std.proofs.Common.{◌≡◌, map, drop}
use Rattle.pddl_domain.specs.Effects.{none, effects_at}
use Rattle.pddl_form.specs.Sight.{scope_of, table_of}
use Rattle.pddl_domain.specs.Sight.{effect_of}
use Rattle.pddl_domain.proofs.effects.effects_at.Given as goal

abbrev pub invariant-loop-part : goal.invariant-loop-part
invariant-loop-part l = effects_at (scope_of l.scope) (table_of l.predicates) (table_of l.functions) (effect_of l.effect) (map (λ p. p.now) (drop l.part-index l.parts)) ≡ effects_at (scope_of l.scope) (table_of l.predicates) (table_of l.functions) none (map (λ p. p.now) l.parts)
