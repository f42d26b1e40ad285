-- Types: names by first mention, each with the parent that it was given.
use Rattle.std.specs.Prelude.{ℕ, ◌==◌, ◌||◌, Bool, false, cond, List, [], ◌∷◌, ◌++◌, Option, Some, None, Result, Ok, Err, codes, length, slice_get, slice_set}
use Rattle.bd_base.specs.declared.text_err.Cause.TheVariants as cause
use Rattle.pddl_form.specs.Fault.{Fault, ◌>>=◌}
use Rattle.pddl_form.specs.Trees.{Named}
use Rattle.pddl_form.specs.Groups.{Group, Grouped, group, wrong}
use Rattle.pddl_form.specs.Names.{place_of}

-- types by number, each with the number of its parent where it was given one
pub record Types : Type 0 where
  pub names : List (List ℕ)
  pub parents : List (Option ℕ)

-- type 0 is `object`
abbrev pub only_object : Types
only_object = record { names = codes "object" ∷ []; parents = None ∷ [] }

abbrev pub mention_by : Option ℕ → List ℕ → Types → ℕ × Types
mention_by (Some i) name types = (i, types)
mention_by None name types = (length types.names, record { names = types.names ++ name ∷ []; parents = types.parents ++ None ∷ [] })

-- a type's number, and the types with it
abbrev pub mention : List ℕ → Types → ℕ × Types
mention name types = mention_by (place_of name types.names) name types

-- the names with their numbers, behind those of a list
abbrev pub mention_all : List (Named × ℕ) → List Named → Types → List (Named × ℕ) × Types
mention_all done [] types = (done, types)
mention_all done (w ∷ ws) types = mention_all (done ++ (w, (mention w.1 types).0) ∷ []) ws (mention w.1 types).1

-- the parent that is written, or `object`
abbrev pub mention_kind : Option Named → Types → ℕ × Types
mention_kind None types = (0, types)
mention_kind (Some w) types = mention w.1 types

abbrev pub parent_in : Option (Option ℕ) → Option ℕ
parent_in None = None
parent_in (Some parent) = parent

abbrev pub parent_at : List (Option ℕ) → ℕ → Option ℕ
parent_at parents k = parent_in (slice_get parents k)

-- whether the type k is i, or lies under it by as many steps at most as the list is long
abbrev pub reaches : List (Option ℕ) → List (Option ℕ) → ℕ → Option ℕ → Bool
reaches steps parents i None = false
reaches [] parents i (Some k) = k == i
reaches (s ∷ steps) parents i (Some k) = k == i || reaches steps parents i (parent_at parents k)

-- the type i, by the parent that it was given before, gets the parent k
abbrev pub give_by : Option ℕ → Named → ℕ → ℕ → Types → Result Types Fault
give_by (Some before) w i k types = cond (before == k) (Ok types) (Err (w.0, cause.Clash w.1))
give_by None w i k types = cond (reaches types.parents types.parents i (Some k)) (Err (w.0, cause.Clash w.1)) (Ok (record { names = types.names; parents = slice_set types.parents i (Some k) }))

abbrev pub give : Named → ℕ → ℕ → Types → Result Types Fault
give w i k types = cond (i == 0) (cond (k == 0) (Ok types) (Err (w.0, cause.Clash w.1))) (give_by (parent_at types.parents i) w i k types)

abbrev pub give_all : ℕ → List (Named × ℕ) → Types → Result Types Fault
give_all k [] types = Ok types
give_all k (m ∷ ms) types = give m.0 m.1 k types >>= λ more. give_all k ms more

abbrev pub type_group_by : List (Named × ℕ) → ℕ × Types → Result Types Fault
type_group_by names kind = give_all kind.0 names kind.1

abbrev pub type_group : Group → Types → Result Types Fault
type_group g types = type_group_by (mention_all [] g.names types).0 (mention_kind g.kind (mention_all [] g.names types).1)

-- the types of the groups, behind those before them
abbrev pub types_from : Types → List Grouped → Result Types Fault
types_from types [] = Ok types
types_from types (group g ∷ gs) = type_group g types >>= λ more. types_from more gs
types_from types (wrong f ∷ gs) = Err f
