-- The parameters of an action: a typed list of variables, each named once.
use Rattle.std.specs.Prelude.{ℕ, ◌-◌, Bool, true, false, cond, nat_lt, List, [], ◌∷◌, ◌++◌, Option, Some, None, Result, Ok, Err, length, take, replicate, codes}
use Rattle.bd_base.specs.declared.text_err.Cause.TheVariants as cause
use Rattle.pddl_lex.specs.declared.sexp.Sexp.{Sexp}
use Rattle.pddl_form.specs.Fault.{Fault, ◌>>=◌}
use Rattle.pddl_form.specs.Trees.{Named, place_at, list_at, variable_at, is_word, must}
use Rattle.pddl_form.specs.Groups.{type_at}
use Rattle.pddl_form.specs.Things.{Table, no_rows, kind_at}
use Rattle.pddl_form.specs.Reserved.{declare_at}

-- whether names stand behind those that have a type
abbrev pub is_fresh : Table → Bool
is_fresh table = nat_lt (length table.numbers) (length table.names)

-- each name without a type gets this one
abbrev pub settle : ℕ → Table → Table
settle kind table = record { names = table.names; numbers = take (length table.names) table.numbers ++ replicate (length table.names - length table.numbers) kind }

-- one more name, still without a type
abbrev pub named_too : Named → Table → Result Table Fault
named_too w table = declare_at w table.names >>= λ names. Ok (record { names = names; numbers = table.numbers })

abbrev pub settled_at : List (List ℕ) → Sexp → Table → Result Table Fault
settled_at types tree table = type_at tree >>= λ w. kind_at types (Some w) >>= λ kind. Ok (settle kind table)

abbrev pub param_at : Sexp → Table → Result Table Fault
param_at tree table = variable_at tree >>= λ w. named_too w table

-- The parameters of a list at the place, where a `-` stands before these items or not.
abbrev pub params_from : List (List ℕ) → ℕ → Bool → Table → List Sexp → Result Table Fault
params_from types place true table [] = Err (place, cause.Shape)
params_from types place false table [] = Ok (settle 0 table)
params_from types place true table (x ∷ xs) = settled_at types x table >>= λ more. params_from types place false more xs
params_from types place false table (x ∷ xs) =
    cond (is_word (codes "-") x) (must (is_fresh table) (place_at x) >>= λ u. params_from types place true table xs) (param_at x table >>= λ more. params_from types place false more xs)

abbrev pub params_at : List (List ℕ) → Option Sexp → Result Table Fault
params_at types None = Ok no_rows
params_at types (Some tree) = list_at tree >>= λ l. params_from types l.0 false no_rows l.1
