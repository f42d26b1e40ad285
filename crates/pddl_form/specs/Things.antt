-- Things by their types, and tables of names with a number each.
use Rattle.std.specs.Prelude.{ℕ, ◌==◌, Bool, false, cond, List, [], ◌∷◌, ◌++◌, Option, Some, None, Result, Ok, Err, slice_get}
use Rattle.bd_base.specs.declared.text_err.Cause.TheVariants as cause
use Rattle.pddl_types.specs.declared.domains.Thing.{Thing}
use Rattle.pddl_types.specs.declared.domains.Head.{Head}
use Rattle.pddl_form.specs.Fault.{Fault, ◌>>=◌, needed}
use Rattle.pddl_form.specs.Trees.{Named}
use Rattle.pddl_form.specs.Groups.{Group, Grouped, group, wrong}
use Rattle.pddl_form.specs.Names.{place_of}

-- names in the order in which they were declared, each with a number
pub record Table : Type 0 where
  pub names : List (List ℕ)
  pub numbers : List ℕ

abbrev pub no_rows : Table
no_rows = record { names = []; numbers = [] }

abbrev pub with_row : List ℕ → ℕ → Table → Table
with_row name number table = record { names = table.names ++ name ∷ []; numbers = table.numbers ++ number ∷ [] }

abbrev pub has_number : Option ℕ → ℕ → Bool
has_number None number = false
has_number (Some n) number = n == number

-- by the name's place among those before it: a thing may be named again with the same type alone
abbrev pub put_thing_by : Option ℕ → Named → ℕ → Table → Result Table Fault
put_thing_by (Some i) w kind table = cond (has_number (slice_get table.numbers i) kind) (Ok table) (Err (w.0, cause.Clash w.1))
put_thing_by None w kind table = Ok (with_row w.1 kind table)

unfoldable pub put_thing : Named → ℕ → Table → Result Table Fault
put_thing w kind table = put_thing_by (place_of w.1 table.names) w kind table

abbrev pub put_things : ℕ → List Named → Table → Result Table Fault
put_things kind [] table = Ok table
put_things kind (w ∷ ws) table = put_thing w kind table >>= λ more. put_things kind ws more

-- the number of the type that is written, or of `object`
abbrev pub kind_at : List (List ℕ) → Option Named → Result ℕ Fault
kind_at types None = Ok 0
kind_at types (Some w) = needed (w.0, cause.Unknown w.1) (place_of w.1 types)

abbrev pub thing_group : List (List ℕ) → Group → Table → Result Table Fault
thing_group types g table = kind_at types g.kind >>= λ kind. put_things kind g.names table

-- the things of the groups, behind those before them
abbrev pub things_from : List (List ℕ) → Table → List Grouped → Result Table Fault
things_from types table [] = Ok table
things_from types table (group g ∷ gs) = thing_group types g table >>= λ more. things_from types more gs
things_from types table (wrong f ∷ gs) = Err f

abbrev pub things_of : List (List ℕ) → List ℕ → List Thing
things_of [] kinds = []
things_of (n ∷ names) [] = []
things_of (n ∷ names) (k ∷ kinds) = record { name = n; kind = k } ∷ things_of names kinds

abbrev pub heads_of : List (List ℕ) → List ℕ → List Head
heads_of [] arities = []
heads_of (n ∷ names) [] = []
heads_of (n ∷ names) (k ∷ arities) = record { name = n; arity = k } ∷ heads_of names arities
