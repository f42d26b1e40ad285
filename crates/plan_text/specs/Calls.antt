-- A plan's text: calls of actions, each a list of words.
use Rattle.std.specs.Prelude.{ℕ, cond, nat_lt, List, [], ◌∷◌, ◌++◌, map, length, Option, Some, None, Result, Ok, Err}
use Rattle.bd_base.specs.declared.text_err.Cause.TheVariants as cause
use Rattle.bd_base.specs.declared.text_err.Limit.{Limit}
use Rattle.bd_base.specs.declared.text_err.Limit.TheVariants as limits
use Rattle.pddl_lex.specs.declared.sexp.Sexp.{Sexp}
use Rattle.pddl_lex.specs.declared.errors.LexErr.{LexErr}
use Rattle.pddl_lex.specs.declared.errors.LexErr.TheVariants as lex
use Rattle.pddl_lex.specs.Reading.{trees_in}
use Rattle.pddl_types.specs.declared.domains.Domain.{Domain}
use Rattle.pddl_types.specs.declared.problems.Problem.{Problem}
use Rattle.pddl_types.specs.declared.calls.Call.{Call}
use Rattle.pddl_form.specs.Fault.{Fault, ◌>>=◌, needed}
use Rattle.pddl_form.specs.Trees.{word_at, head_at}
use Rattle.pddl_form.specs.Names.{place_of}
use Rattle.pddl_form.specs.Things.{Table}
use Rattle.pddl_form.specs.Terms.{head_index, arity_fits}
use Rattle.pddl_form.specs.Names.{names_from}
use Rattle.std.specs.Prelude.{slice_get}

-- the actions by their names, with the numbers of their parameters
abbrev pub actions_of : Domain → Table
actions_of d = record { names = names_from [] (map (λ s. s.name) d.schemas); numbers = map (λ s. length s.params) d.schemas }

-- the constants, and the objects behind them
abbrev pub objects_of : Domain → Problem → List (List ℕ)
objects_of d p = names_from (names_from [] (map (λ t. t.name) d.constants)) (map (λ t. t.name) p.objects)

-- a word that names an object
abbrev pub arg_at : List (List ℕ) → Sexp → Result (List ℕ) Fault
arg_at objects tree = word_at tree >>= λ w. needed (w.0, cause.Unknown w.1) (place_of w.1 objects) >>= λ i. Ok w.1

-- the objects' names behind those before them
abbrev pub args_from : List (List ℕ) → List (List ℕ) → List Sexp → Result (List (List ℕ)) Fault
args_from objects done [] = Ok done
args_from objects done (x ∷ xs) = arg_at objects x >>= λ arg. args_from objects (done ++ arg ∷ []) xs

unfoldable pub call_at : Table → List (List ℕ) → Sexp → Result Call Fault
call_at actions objects tree = do
  h ← head_at tree
  head ← head_index h actions
  fits ← arity_fits h (slice_get actions.numbers head)
  args ← args_from objects [] h.items
  Ok (record { place = h.place; name = h.head.1; args = args })

-- the calls behind those before them
abbrev pub calls_from : Table → List (List ℕ) → List Call → List Sexp → Result (List Call) Fault
calls_from actions objects done [] = Ok done
calls_from actions objects done (x ∷ xs) = call_at actions objects x >>= λ call. calls_from actions objects (done ++ call ∷ []) xs

-- an error of the lists of a text is a fault; reading never wants for memory
abbrev pub fault_of : LexErr → Fault
fault_of (lex.Bad place) = (place, cause.Bad)
fault_of (lex.Unclosed place) = (place, cause.Unclosed)
fault_of (lex.Extra place) = (place, cause.Extra)
fault_of (lex.TooDeep place) = (place, cause.TooDeep)
fault_of lex.NoMemory = (0, cause.Bad)

abbrev pub listed : Result (List Sexp) LexErr → Result (List Sexp) Fault
listed (Ok trees) = Ok trees
listed (Err e) = Err (fault_of e)

-- the calls that a text lists, or its first fault
abbrev pub plan_at : Domain → Problem → List ℕ → Result (List Call) Fault
plan_at d p text = listed (trees_in text) >>= λ trees. calls_from (actions_of d) (objects_of d p) [] trees

-- the limit that a plan passes: more than 2,000 steps
abbrev pub over_of : List Call → Option (Limit × ℕ)
over_of calls = cond (nat_lt 2_000 (length calls)) (Some (limits.Steps, 2_001)) None
