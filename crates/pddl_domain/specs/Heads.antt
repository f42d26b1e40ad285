-- Predicates and functions: names with the numbers of their arguments.
use Rattle.std.specs.Prelude.{ℕ, ◌+◌, ◌==◌, Bool, true, false, cond, List, [], ◌∷◌, ◌++◌, Result, Ok, Err, codes, length}
use Rattle.std.specs.Str.{bytes_eq}
use Rattle.bd_base.specs.declared.text_err.Cause.TheVariants as cause
use Rattle.pddl_lex.specs.declared.sexp.Sexp.{Sexp}
use Rattle.pddl_form.specs.Fault.{Fault, ◌>>=◌}
use Rattle.pddl_form.specs.Trees.{Headed, place_at, word_at, head_at, is_word, is_name, must}
use Rattle.pddl_form.specs.Groups.{Grouped, group, wrong, groups, is_either}
use Rattle.pddl_form.specs.Things.{Table}
use Rattle.pddl_form.specs.Reserved.{unsupported, unreserved, declare_at}

-- how many variables the groups have, on top of a number
abbrev pub count_from : ℕ → List Grouped → Result ℕ Fault
count_from n [] = Ok n
count_from n (group g ∷ gs) = count_from (n + length g.names) gs
count_from n (wrong f ∷ gs) = Err f

-- a declaration, not among the names before it: its head, the number of its variables, and the names with it
unfoldable pub declaration_at : List (List ℕ) → Sexp → Result ((Headed × ℕ) × List (List ℕ)) Fault
declaration_at names tree = do
  h ← head_at tree
  free ← unreserved h
  name ← must (is_name h.head.1) h.head.0
  more ← declare_at h.head names
  arity ← count_from 0 (groups true h.place h.items)
  Ok ((h, arity), more)

abbrev pub with_arity : (Headed × ℕ) × List (List ℕ) → Table → Table
with_arity d table = record { names = d.1; numbers = table.numbers ++ d.0.1 ∷ [] }

abbrev pub predicate_in : Sexp → Table → Result Table Fault
predicate_in tree table = declaration_at table.names tree >>= λ d. Ok (with_arity d table)

-- the predicates that the items declare, behind those before them
abbrev pub predicates_at : Table → List Sexp → Result Table Fault
predicates_at table [] = Ok table
predicates_at table (x ∷ xs) = predicate_in x table >>= λ more. predicates_at more xs

-- `total-cost` has no arguments
abbrev pub fits_total : Headed → ℕ → Result (Unit {0}) Fault
fits_total h arity = cond (bytes_eq h.head.1 (codes "total-cost")) (cond (arity == 0) (Ok tt) (Err (h.place, cause.Arity h.head.1))) (Ok tt)

abbrev pub function_in : Sexp → Table → Result Table Fault
function_in tree table = declaration_at table.names tree >>= λ d. fits_total d.0.0 d.0.1 >>= λ fit. Ok (with_arity d table)

-- the type of a function is `number`
abbrev pub number_type_at : Sexp → Result (Unit {0}) Fault
number_type_at tree = cond (is_either tree) (unsupported (place_at tree) (codes "either")) (word_at tree >>= λ w. cond (bytes_eq w.1 (codes "number")) (Ok tt) (unsupported w.0 w.1))

-- The functions of a list at the place, where a `-` stands before these items or not, and a function since the last type or not.
abbrev pub functions_from : ℕ → Bool → Bool → Table → List Sexp → Result Table Fault
functions_from place true fresh table [] = Err (place, cause.Shape)
functions_from place false fresh table [] = Ok table
functions_from place true fresh table (x ∷ xs) = number_type_at x >>= λ u. functions_from place false false table xs
functions_from place false fresh table (x ∷ xs) =
    cond (is_word (codes "-") x) (must fresh (place_at x) >>= λ u. functions_from place true false table xs) (function_in x table >>= λ more. functions_from place false true more xs)
