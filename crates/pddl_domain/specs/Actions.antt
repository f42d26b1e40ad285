-- Actions: their fields, and what these state.
use Rattle.std.specs.Prelude.{ℕ, cond, List, [], ◌∷◌, ◌++◌, Option, Some, None, Result, Ok, Err, codes}
use Rattle.std.specs.Str.{bytes_eq}
use Rattle.bd_base.specs.declared.text_err.Cause.TheVariants as cause
use Rattle.pddl_lex.specs.declared.sexp.Sexp.{Sexp}
use Rattle.pddl_types.specs.declared.domains.Schema.{Schema}
use Rattle.pddl_form.specs.Fault.{Fault, ◌>>=◌}
use Rattle.pddl_form.specs.Trees.{Named, Headed, word_at, name_at, first_at}
use Rattle.pddl_form.specs.Things.{Table}
use Rattle.pddl_form.specs.Reserved.{declare_at}
use Rattle.pddl_form.specs.Terms.{Scope}
use Rattle.pddl_domain.specs.Params.{params_at}
use Rattle.pddl_domain.specs.Conditions.{Condition, condition_at}
use Rattle.pddl_domain.specs.Conditions as conditions
use Rattle.pddl_domain.specs.Effects.{Effect, effect_at}
use Rattle.pddl_domain.specs.Effects as effects
use Rattle.pddl_domain.specs.Domain.{Declared}
use Rattle.pddl_domain.specs.declared.values.Field.{Field}
use Rattle.pddl_domain.specs.declared.values.Field.TheVariants as kinds

-- the values of an action's fields, and the field whose word came last, until its value comes
pub record Fields : Type 0 where
  pub params : Option Sexp
  pub pre : Option Sexp
  pub effect : Option Sexp
  pub pending : Option Field

abbrev pub no_fields : Fields
no_fields = record { params = None; pre = None; effect = None; pending = None }

abbrev pub field_of : List ℕ → Option Field
field_of word =
    cond (bytes_eq word (codes ":parameters")) (Some kinds.Parameters)
    (cond (bytes_eq word (codes ":precondition")) (Some kinds.Precondition) (cond (bytes_eq word (codes ":effect")) (Some kinds.Effect) None))

abbrev pub value_in : Field → Fields → Option Sexp
value_in kinds.Parameters f = f.params
value_in kinds.Precondition f = f.pre
value_in kinds.Effect f = f.effect

abbrev pub with_value : Field → Sexp → Fields → Fields
with_value kinds.Parameters x f = record { params = Some x; pre = f.pre; effect = f.effect; pending = None }
with_value kinds.Precondition x f = record { params = f.params; pre = Some x; effect = f.effect; pending = None }
with_value kinds.Effect x f = record { params = f.params; pre = f.pre; effect = Some x; pending = None }

-- a field that has no value yet
abbrev pub unless_given : Named → Option Sexp → Field → Result Field Fault
unless_given w None field = Ok field
unless_given w (Some x) field = Err (w.0, cause.Clash w.1)

abbrev pub field_by : Named → Option Field → Fields → Result Field Fault
field_by w None f = Err (w.0, cause.Unsupported w.1)
field_by w (Some field) f = unless_given w (value_in field f) field

abbrev pub field_at : Sexp → Fields → Result Field Fault
field_at tree f = word_at tree >>= λ w. field_by w (field_of w.1) f

abbrev pub awaits : Field → Fields → Fields
awaits field f = record { params = f.params; pre = f.pre; effect = f.effect; pending = Some field }

abbrev pub step_by : Option Field → Sexp → Fields → Result Fields Fault
step_by None x f = field_at x f >>= λ field. Ok (awaits field f)
step_by (Some field) x f = Ok (with_value field x f)

-- one more item: a field's word, or its value behind it
abbrev pub field_step : Sexp → Fields → Result Fields Fault
field_step x f = step_by f.pending x f

abbrev pub fields_from : Fields → List Sexp → Result Fields Fault
fields_from f [] = Ok f
fields_from f (x ∷ xs) = field_step x f >>= λ more. fields_from more xs

abbrev pub unless_awaited : ℕ → Option Field → Fields → Result Fields Fault
unless_awaited place None f = Ok f
unless_awaited place (Some field) f = Err (place, cause.Shape)

-- the fields of an action at the place, each with its value
abbrev pub fields_at : ℕ → List Sexp → Result Fields Fault
fields_at place items = fields_from no_fields items >>= λ f. unless_awaited place f.pending f

abbrev pub pre_at : Scope → Table → Option Sexp → Result Condition Fault
pre_at scope predicates None = Ok conditions.none
pre_at scope predicates (Some x) = condition_at scope predicates x

abbrev pub post_at : Scope → Table → Table → Option Sexp → Result Effect Fault
post_at scope predicates functions None = Ok effects.none
post_at scope predicates functions (Some x) = effect_at scope predicates functions x

-- the terms of an action: its parameters and the constants
abbrev pub scope_in : Table → Declared → Scope
scope_in params d = record { params = params.names; objects = d.constants.names }

abbrev pub schema_of : List ℕ → Table → Condition → Effect → Schema
schema_of name params c e = record { name = name; params = params.numbers; pre = c.pre; equal = c.equal; differ = c.differ; add = e.add; del = e.del; cost = e.cost }

unfoldable pub schema_at : Declared → List ℕ → Fields → Result Schema Fault
schema_at d name f = do
  params ← params_at d.types.names f.params
  pre ← pre_at (scope_in params d) d.predicates f.pre
  effect ← post_at (scope_in params d) d.predicates d.functions f.effect
  Ok (schema_of name params pre effect)

-- an action, whose name none of these is, and the names with its own
unfoldable pub action_at : Declared → List (List ℕ) → Headed → Result (Schema × List (List ℕ)) Fault
action_at d names h = do
  first ← first_at h.place h.items
  name ← name_at first.0
  more ← declare_at name names
  fields ← fields_at h.place first.1
  schema ← schema_at d name.1 fields
  Ok (schema, more)

-- the actions behind those before them
abbrev pub actions_from : Declared → List (List ℕ) → List Schema → List Headed → Result (List Schema) Fault
actions_from d names done [] = Ok done
actions_from d names done (h ∷ hs) = action_at d names h >>= λ r. actions_from d r.1 (done ++ r.0 ∷ []) hs
