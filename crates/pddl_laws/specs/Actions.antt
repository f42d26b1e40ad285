-- What `:action` spells.
use Rattle.std.specs.Prelude.{◌≡◌, ℕ, true, List, [], ◌∷◌, Option, Some, None, map}
use Rattle.pddl_lex.specs.declared.sexp.Sexp.{Sexp}
use Rattle.pddl_types.specs.declared.domains.Schema.{Schema}
use Rattle.pddl_form.specs.Trees.{Named, Headed, is_name}
use Rattle.pddl_form.specs.Things.{Table}
use Rattle.pddl_form.specs.Terms.{Scope}
use Rattle.pddl_form.specs.Spells.{IsWord, AreNew}
use Rattle.pddl_domain.specs.Conditions.{Condition}
use Rattle.pddl_domain.specs.Conditions as conditions
use Rattle.pddl_domain.specs.Effects.{Effect}
use Rattle.pddl_domain.specs.Effects as effects
use Rattle.pddl_domain.specs.Domain.{Declared}
use Rattle.pddl_domain.specs.Actions.{Fields, no_fields, field_of, value_in, with_value, scope_in, schema_of}
use Rattle.pddl_domain.specs.declared.values.Field.{Field}
use Rattle.pddl_laws.specs.Params.{SpellsParamsField}
use Rattle.pddl_laws.specs.Conditions.{SpellsCondition}
use Rattle.pddl_laws.specs.Effects.{SpellsEffect}

-- fields behind those that are given: the word of one that isn't, and its value
pub data SpellsFields : Fields → List Sexp → Fields → Type 0 where
  fields_none : {given : Fields} {items : List Sexp} {all : Fields} → items ≡ [] → all ≡ given → SpellsFields given items all
  fields_more : {given : Fields} {items : List Sexp} {all : Fields} (key value : Sexp) (rest : List Sexp) (w : Named) (field : Field) →
      IsWord key w → field_of w.1 ≡ Some field → value_in field given ≡ None → SpellsFields (with_value field value given) rest all → items ≡ key ∷ value ∷ rest → SpellsFields given items all

-- a field that isn't there states nothing
abbrev pub SpellsPrecondition : Scope → Table → Option Sexp → Condition → Type 0
SpellsPrecondition scope predicates None c = c ≡ conditions.none
SpellsPrecondition scope predicates (Some tree) c = SpellsCondition scope predicates tree c

abbrev pub SpellsResult : Scope → Table → Table → Option Sexp → Effect → Type 0
SpellsResult scope predicates functions None e = e ≡ effects.none
SpellsResult scope predicates functions (Some tree) e = SpellsEffect scope predicates functions tree e

-- the parameters, and what the precondition and the effect state of them and of the constants
pub record SpellsSchema (d : Declared) (name : List ℕ) (f : Fields) (s : Schema) : Type 0 where
  pub params : Table
  pub pre : Condition
  pub effect : Effect
  pub are_params : SpellsParamsField d.types.names f.params params
  pub is_pre : SpellsPrecondition (scope_in params d) d.predicates f.pre pre
  pub is_effect : SpellsResult (scope_in params d) d.predicates d.functions f.effect effect
  pub whole : s ≡ schema_of name params pre effect

-- a name, and fields
pub record SpellsAction (d : Declared) (h : Headed) (s : Schema) : Type 0 where
  pub first : Sexp
  pub rest : List Sexp
  pub name : Named
  pub fields : Fields
  pub items : h.items ≡ first ∷ rest
  pub named : IsWord first name
  pub is_name : is_name name.1 ≡ true
  pub are_fields : SpellsFields no_fields rest fields
  pub schema : SpellsSchema d name.1 fields s

abbrev pub SpellsEach : Declared → List Headed → List Schema → Type 0
SpellsEach d [] [] = Unit {0}
SpellsEach d [] (s ∷ ss) = ⊥
SpellsEach d (h ∷ hs) [] = ⊥
SpellsEach d (h ∷ hs) (s ∷ ss) = SpellsAction d h s × SpellsEach d hs ss

-- the actions, each of its own name
pub record SpellsActions (d : Declared) (hs : List Headed) (schemas : List Schema) : Type 0 where
  pub each : SpellsEach d hs schemas
  pub new : AreNew [] (map (λ s. s.name) schemas)
