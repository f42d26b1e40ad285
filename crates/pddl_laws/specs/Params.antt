-- What `:parameters` spell.
use Rattle.std.specs.Prelude.{◌≡◌, ℕ, true, List, [], ◌∷◌, ◌++◌, Option, Some, None, length, map, replicate}
use Rattle.pddl_lex.specs.declared.sexp.Sexp.{Sexp}
use Rattle.pddl_lex.specs.declared.sexp.Sexp.TheOpen.{Sexp-F}
use Rattle.pddl_lex.specs.declared.sexp.Sexp.TheViews.{out-Sexp}
use Rattle.pddl_form.specs.Trees.{Named}
use Rattle.pddl_form.specs.Groups.{Group}
use Rattle.pddl_form.specs.Things.{Table, no_rows}
use Rattle.pddl_form.specs.Spells.{IsTyped, IsKind, AreNew}

abbrev pub texts : List Named → List (List ℕ)
texts names = map (λ w. w.1) names

-- rows behind those of a table
abbrev pub joined : Table → Table → Table
joined t u = record { names = t.names ++ u.names; numbers = t.numbers ++ u.numbers }

-- names of one type
abbrev pub row_group : List Named → ℕ → Table
row_group names k = record { names = texts names; numbers = replicate (length names) k }

-- the names of the groups, each with the number of its group's type
pub data HaveKinds : List (List ℕ) → List Group → Table → Type 0 where
  kinds_none : {types : List (List ℕ)} {gs : List Group} {rows : Table} → gs ≡ [] → rows ≡ no_rows → HaveKinds types gs rows
  kinds_more : {types : List (List ℕ)} {gs : List Group} {rows : Table} (g : Group) (more : List Group) (k : ℕ) (rest : Table) → IsKind types g.kind k → HaveKinds types more rest → gs ≡ g ∷ more → rows ≡ joined (row_group g.names k) rest → HaveKinds types gs rows

-- a typed list of variables with known types, each variable once
pub record SpellsParams (types : List (List ℕ)) (items : List Sexp) (params : Table) : Type 0 where
  pub groups : List Group
  pub typed : IsTyped true items groups
  pub kinds : HaveKinds types groups params
  pub new : AreNew [] params.names

-- the value of the field, where there is one
abbrev pub SpellsParamsField : List (List ℕ) → Option Sexp → Table → Type 0
SpellsParamsField types None params = params ≡ no_rows
SpellsParamsField types (Some tree) params = (place : ℕ) × (items : List Sexp) × (out-Sexp tree ≡ Sexp-F.List place items) × SpellsParams types items params
