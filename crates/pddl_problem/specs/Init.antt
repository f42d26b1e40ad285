-- What holds at first, and the values of functions, item by item.
use Rattle.std.specs.Prelude.{ℕ, ◌==◌, Bool, true, false, cond, List, [], ◌∷◌, ◌++◌, Option, Some, None, Result, Ok, Err, codes, slice_get, map}
use Rattle.std.specs.Str.{bytes_eq}
use Rattle.bd_base.specs.declared.text_err.Cause.TheVariants as cause
use Rattle.pddl_lex.specs.declared.sexp.Sexp.{Sexp}
use Rattle.pddl_types.specs.declared.terms.Term.{Term}
use Rattle.pddl_types.specs.declared.terms.Term.TheVariants as terms
use Rattle.pddl_types.specs.declared.terms.Atom.{Atom}
use Rattle.pddl_types.specs.declared.problems.Given.{Given}
use Rattle.pddl_form.specs.Fault.{Fault, ◌>>=◌}
use Rattle.pddl_form.specs.Trees.{Named, Headed, word_at, head_at, first_at}
use Rattle.pddl_form.specs.Names.{place_of, is_declared}
use Rattle.pddl_form.specs.Things.{Table}
use Rattle.pddl_form.specs.Terms.{Scope, atom_at}
use Rattle.pddl_form.specs.Number.{number_at}
use Rattle.pddl_form.specs.Reserved.{count_at}
use Rattle.pddl_form.specs.Terms.{delete_at}

-- a term that is an object, by its number; no parameter stands in a problem
abbrev pub object_of : Term → ℕ
object_of (terms.Param k) = k
object_of (terms.Object i) = i

-- the head and the objects of an atom, by which atoms of a problem are the same or not
abbrev pub key_of : Atom → List ℕ
key_of a = a.head ∷ map object_of a.args

-- what was stated until now, with the keys of its atoms and of its calls
pub record Init : Type 0 where
  pub keys : List (List ℕ)
  pub atoms : List Atom
  pub calls : List (List ℕ)
  pub values : List Given

abbrev pub no_init : Init
no_init = record { keys = []; atoms = []; calls = []; values = [] }

abbrev pub with_atom : Atom → Init → Init
with_atom a s = record { keys = s.keys ++ key_of a ∷ []; atoms = s.atoms ++ a ∷ []; calls = s.calls; values = s.values }

-- each atom is stated once
abbrev pub put_atom : Atom → Init → Init
put_atom a s = cond (is_declared (key_of a) s.keys) s (with_atom a s)

abbrev pub is_given : Option Given → ℕ → Bool
is_given None number = false
is_given (Some v) number = v.number == number

abbrev pub with_key : List ℕ → List (List ℕ) → List (List ℕ)
with_key key keys = cond (is_declared key keys) keys (keys ++ key ∷ [])

abbrev pub with_value : Atom → ℕ → Init → Init
with_value a number s = record { keys = s.keys; atoms = s.atoms; calls = with_key (key_of a) s.calls; values = s.values ++ record { call = a; number = number } ∷ [] }

-- by the place of the call among those before it: whether it has that number; it may have no other
abbrev pub is_put_by : Option ℕ → Named → ℕ → List Given → Result Bool Fault
is_put_by None w number values = Ok false
is_put_by (Some i) w number values = cond (is_given (slice_get values i) number) (Ok true) (Err (w.0, cause.Clash w.1))

abbrev pub is_put : Named → List ℕ → ℕ → Init → Result Bool Fault
is_put w key number s = is_put_by (place_of key s.calls) w number s.values

abbrev pub put_value : Named → Atom → ℕ → Init → Result Init Fault
put_value w a number s = is_put w (key_of a) number s >>= λ there. Ok (cond there s (with_value a number s))

-- a value of the total cost has no effect
abbrev pub put_number : Named → Atom → ℕ → Init → Result Init Fault
put_number w a number s = cond (bytes_eq w.1 (codes "total-cost")) (Ok s) (put_value w a number s)

unfoldable pub value_at : Scope → Table → Headed → Init → Result Init Fault
value_at scope functions h s = do
  two ← count_at h 2
  first ← first_at h.place h.items
  call ← head_at first.0
  a ← atom_at scope functions call
  second ← first_at h.place first.1
  word ← word_at second.0
  number ← number_at word
  put_number call.head a number s

abbrev pub put_item : Scope → Table → Table → Headed → Init → Result Init Fault
put_item scope predicates functions h s =
    cond (bytes_eq h.head.1 (codes "not")) (delete_at scope predicates h >>= λ a. Ok s)
    (cond (bytes_eq h.head.1 (codes "=")) (value_at scope functions h s) (atom_at scope predicates h >>= λ a. Ok (put_atom a s)))

abbrev pub item_in : Scope → Table → Table → Sexp → Init → Result Init Fault
item_in scope predicates functions tree s = head_at tree >>= λ h. put_item scope predicates functions h s

-- what the items state, behind what was stated before
abbrev pub init_from : Scope → Table → Table → Init → List Sexp → Result Init Fault
init_from scope predicates functions s [] = Ok s
init_from scope predicates functions s (x ∷ xs) = item_in scope predicates functions x s >>= λ more. init_from scope predicates functions more xs
