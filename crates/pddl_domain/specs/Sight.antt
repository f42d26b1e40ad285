-- What the code's words, lists and groups are to the reading.
use Rattle.std.specs.Prelude.{ℕ, map}
use Rattle.std.specs.Option.{option_map}
use Rattle.pddl_form.specs.Trees.{Named}
use Rattle.pddl_domain.specs.Outline.{Outline}
use Rattle.pddl_domain.specs.declared.sections.Sections.{Sections}
use Rattle.pddl_domain.specs.Types.{Types}
use Rattle.pddl_domain.specs.Domain.{Declared}
use Rattle.pddl_domain.specs.Conditions.{Condition}
use Rattle.pddl_domain.specs.Effects.{Effect}
use Rattle.pddl_domain.specs.Actions.{Fields}
use Rattle.pddl_domain.specs.declared.values.Fields as code_fields
use Rattle.pddl_domain.specs.declared.effects.Effect as code_effect
use Rattle.pddl_domain.specs.declared.conditions.Condition as code_condition
use Rattle.pddl_domain.specs.declared.type_table.Types as code_types
use Rattle.pddl_domain.specs.declared.types.Known as code_mention
use Rattle.pddl_domain.specs.declared.reading.Declared as code_declared
use Rattle.pddl_form.specs.Sight.{headed_of, named_of, table_of}

abbrev pub outline_of : Sections → Outline
outline_of s = record {
  requirements = option_map headed_of s.requirements;
  types = option_map headed_of s.types;
  constants = option_map headed_of s.constants;
  predicates = option_map headed_of s.predicates;
  functions = option_map headed_of s.functions;
  actions = map headed_of s.actions.items;
}

abbrev pub types_of : code_types.Types → Types
types_of t = record { names = t.names; parents = t.parents.items }

abbrev pub mention_of : code_mention.Known → Named × ℕ
mention_of m = (named_of m.name, m.id)

abbrev pub declared_of : code_declared.Declared → Declared
declared_of d = record { types = types_of d.types; constants = table_of d.constants; predicates = table_of d.predicates; functions = table_of d.functions; actions = map headed_of d.actions.items }

abbrev pub condition_of : code_condition.Condition → Condition
condition_of c = record { pre = c.pre.items; equal = c.equal.items; differ = c.differ.items }

abbrev pub effect_of : code_effect.Effect → Effect
effect_of e = record { add = e.add.items; del = e.del.items; cost = e.cost }

abbrev pub fields_of : code_fields.Fields → Fields
fields_of f = record { params = option_map (λ x. x.now) f.params; pre = option_map (λ x. x.now) f.pre; effect = option_map (λ x. x.now) f.effect; pending = f.pending }
