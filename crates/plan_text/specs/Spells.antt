-- What a plan's text spells.
use Rattle.std.specs.Prelude.{◌≡◌, ℕ, List, [], ◌∷◌, length, slice_get, Some, None, Result, Ok, Err}
use Rattle.bd_base.specs.declared.text_err.TextErr.{TextErr}
use Rattle.bd_base.specs.declared.text_err.TextErr.TheVariants as errors
use Rattle.pddl_lex.specs.declared.sexp.Sexp.{Sexp}
use Rattle.pddl_lex.specs.declared.sexp.Sexp.TheOpen.{Sexp-F}
use Rattle.pddl_lex.specs.declared.sexp.Sexp.TheViews.{out-Sexp}
use Rattle.pddl_lex.specs.Spells.{SpellsTrees}
use Rattle.pddl_types.specs.declared.domains.Domain.{Domain}
use Rattle.pddl_types.specs.declared.problems.Problem.{Problem}
use Rattle.pddl_types.specs.declared.calls.Call.{Call}
use Rattle.pddl_form.specs.Names.{place_of}
use Rattle.pddl_form.specs.Things.{Table}
use Rattle.pddl_form.specs.Spells.{IsWord}
use Rattle.plan_text.specs.Calls.{actions_of, objects_of, over_of}

-- the item is a word that names an object
pub record IsArg (objects : List (List ℕ)) (tree : Sexp) (name : List ℕ) : Type 0 where
  pub place : ℕ
  pub number : ℕ
  pub word : IsWord tree (place, name)
  pub known : place_of name objects ≡ Some number

abbrev pub AreArgs : List (List ℕ) → List Sexp → List (List ℕ) → Type 0
AreArgs objects [] [] = Unit {0}
AreArgs objects [] (w ∷ ws) = ⊥
AreArgs objects (x ∷ xs) [] = ⊥
AreArgs objects (x ∷ xs) (w ∷ ws) = IsArg objects x w × AreArgs objects xs ws

-- the tree is a list of an action's name and as many objects as it has parameters
pub record IsCall (actions : Table) (objects : List (List ℕ)) (tree : Sexp) (call : Call) : Type 0 where
  pub head : Sexp
  pub head_place : ℕ
  pub items : List Sexp
  pub number : ℕ
  pub whole : out-Sexp tree ≡ Sexp-F.List call.place (head ∷ items)
  pub named : IsWord head (head_place, call.name)
  pub known : place_of call.name actions.names ≡ Some number
  pub fits : slice_get actions.numbers number ≡ Some (length items)
  pub args : AreArgs objects items call.args

abbrev pub AreCalls : Table → List (List ℕ) → List Sexp → List Call → Type 0
AreCalls actions objects [] [] = Unit {0}
AreCalls actions objects [] (c ∷ cs) = ⊥
AreCalls actions objects (x ∷ xs) [] = ⊥
AreCalls actions objects (x ∷ xs) (c ∷ cs) = IsCall actions objects x c × AreCalls actions objects xs cs

-- the text is lists, each a call over the actions of the domain, its constants and the objects of the problem
pub record SpellsPlan (d : Domain) (p : Problem) (text : List ℕ) (calls : List Call) : Type 0 where
  pub trees : List Sexp
  pub spelled : SpellsTrees text trees
  pub each : AreCalls (actions_of d) (objects_of d p) trees calls

-- the calls that the text spells within the limit, the limit where they pass it, or that the text spells none
abbrev pub Spelled : Domain → Problem → List ℕ → Result (List Call) TextErr → Type 0
Spelled d p text (Ok calls) = SpellsPlan d p text calls × (over_of calls ≡ None)
Spelled d p text (Err errors.NoMemory) = Unit {0}
Spelled d p text (Err (errors.Over limit count)) = (calls : List Call) × SpellsPlan d p text calls × (over_of calls ≡ Some (limit, count))
Spelled d p text (Err (errors.At place cause)) = (calls : List Call) → SpellsPlan d p text calls → ⊥
