-- A domain, section by section.
use Rattle.std.specs.Prelude.{ℕ, false, List, Option, Some, None, Result, Ok}
use Rattle.pddl_lex.specs.declared.sexp.Sexp.{Sexp}
use Rattle.pddl_form.specs.Fault.{Fault, ◌>>=◌}
use Rattle.pddl_form.specs.Trees.{Headed}
use Rattle.pddl_domain.specs.Outline.{outline_at}
use Rattle.pddl_form.specs.Groups.{groups}
use Rattle.pddl_domain.specs.Types.{Types, only_object, types_from}
use Rattle.pddl_form.specs.Things.{Table, no_rows, things_from}
use Rattle.pddl_domain.specs.Heads.{predicates_at, functions_from}

abbrev pub types_section : Option Headed → Result Types Fault
types_section None = Ok only_object
types_section (Some h) = types_from only_object (groups false h.place h.items)

abbrev pub things_section : List (List ℕ) → Option Headed → Result Table Fault
things_section types None = Ok no_rows
things_section types (Some h) = things_from types no_rows (groups false h.place h.items)

abbrev pub predicates_section : Option Headed → Result Table Fault
predicates_section None = Ok no_rows
predicates_section (Some h) = predicates_at no_rows h.items

abbrev pub functions_section : Option Headed → Result Table Fault
functions_section None = Ok no_rows
functions_section (Some h) = functions_from h.place false false no_rows h.items

-- what a domain declares before its actions
pub record Declared : Type 0 where
  pub types : Types
  pub constants : Table
  pub predicates : Table
  pub functions : Table
  pub actions : List Headed

unfoldable pub declared_at : Sexp → Result Declared Fault
declared_at tree = do
  outline ← outline_at tree
  types ← types_section outline.types
  constants ← things_section types.names outline.constants
  predicates ← predicates_section outline.predicates
  functions ← functions_section outline.functions
  Ok (record { types = types; constants = constants; predicates = predicates; functions = functions; actions = outline.actions })
