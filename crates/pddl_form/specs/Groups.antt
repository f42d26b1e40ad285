-- A typed list, as groups of names with one type, up to the first fault of form.
use Rattle.std.specs.Prelude.{◌≡◌, ℕ, Bool, true, false, cond, List, [], ◌∷◌, ◌++◌, Option, Some, None, Result, Ok, Err, codes}
use Rattle.bd_base.specs.declared.text_err.Cause.TheVariants as cause
use Rattle.bd_base.specs.declared.text_err.TextErr.{TextErr}
use Rattle.bd_base.specs.declared.text_err.TextErr.TheVariants as errors
use Rattle.pddl_lex.specs.declared.sexp.Sexp.{Sexp}
use Rattle.pddl_lex.specs.declared.sexp.Sexp.TheOpen.{Sexp-F}
use Rattle.pddl_lex.specs.declared.sexp.Sexp.TheViews.{out-Sexp}
use Rattle.pddl_form.specs.Fault.{Fault}
use Rattle.pddl_form.specs.Trees.{Named, place_at, name_at, variable_at, is_word}

-- names, and the type's word where one is written
pub record Group : Type 0 where
  pub names : List Named
  pub kind : Option Named

-- a group, or what is wrong behind those before it
pub data Grouped : Type 0 where
  group : Group → Grouped
  wrong : Fault → Grouped

abbrev pub is_either_in : Sexp-F Sexp → Bool
is_either_in (Sexp-F.Word place text) = false
is_either_in (Sexp-F.List place []) = false
is_either_in (Sexp-F.List place (x ∷ xs)) = is_word (codes "either") x

-- whether it is a list `(either ..)`
abbrev pub is_either : Sexp → Bool
is_either tree = is_either_in (out-Sexp tree)

abbrev pub type_at : Sexp → Result Named Fault
type_at tree = cond (is_either tree) (Err (place_at tree, cause.Unsupported (codes "either"))) (name_at tree)

-- a variable, or a name
abbrev pub entry_at : Bool → Sexp → Result Named Fault
entry_at true tree = variable_at tree
entry_at false tree = name_at tree

abbrev pub no_names : List Named → Bool
no_names [] = true
no_names (n ∷ names) = false

abbrev pub last_group : List Named → List Grouped
last_group [] = []
last_group (n ∷ names) = group (record { names = n ∷ names; kind = None }) ∷ []

abbrev pub on_word : Result Named Fault → (Named → List Grouped) → List Grouped
on_word (Ok w) go = go w
on_word (Err f) go = wrong f ∷ []

-- The groups of a list at the place, of variables or of names, where names stand since the last type, and a `-` before these items or not.
abbrev pub groups_from : Bool → ℕ → Bool → List Named → List Sexp → List Grouped
groups_from variables place false names [] = last_group names
groups_from variables place true names [] = wrong (place, cause.Shape) ∷ []
groups_from variables place true names (x ∷ xs) = on_word (type_at x) (λ kind. group (record { names = names; kind = Some kind }) ∷ groups_from variables place false [] xs)
groups_from variables place false names (x ∷ xs) =
    cond (is_word (codes "-") x) (cond (no_names names) (wrong (place_at x, cause.Shape) ∷ []) (groups_from variables place true names xs))
    (on_word (entry_at variables x) (λ w. groups_from variables place false (names ++ w ∷ []) xs))

abbrev pub groups : Bool → ℕ → List Sexp → List Grouped
groups variables place items = groups_from variables place false [] items

-- The next group, seen by view with the groups behind it, is the first of the list, unless memory ran out.
abbrev pub Stops : TextErr → List Grouped → Type 0
Stops errors.NoMemory list = Unit {0}
Stops (errors.Over limit count) list = ⊥
Stops (errors.At place c) list = list ≡ wrong (place, c) ∷ []

abbrev pub Nexts : {X : Type 0} → (X → Group) → (X → List Grouped) → Result (Option X) TextErr → List Grouped → Type 0
Nexts first rest (Ok None) list = list ≡ []
Nexts first rest (Ok (Some x)) list = list ≡ group (first x) ∷ rest x
Nexts first rest (Err e) list = Stops e list
