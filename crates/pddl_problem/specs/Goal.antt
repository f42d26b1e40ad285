-- What must hold at the end, and whether costs count.
use Rattle.std.specs.Prelude.{Bool, true, false, cond, List, [], ◌∷◌, ◌++◌, Option, Some, None, Result, Ok, codes}
use Rattle.std.specs.Str.{bytes_eq}
use Rattle.pddl_lex.specs.declared.sexp.Sexp.{Sexp}
use Rattle.pddl_types.specs.declared.terms.Atom.{Atom}
use Rattle.pddl_form.specs.Fault.{Fault, ◌>>=◌}
use Rattle.pddl_form.specs.Trees.{Named, Headed, word_at, head_at, first_at, end_at}
use Rattle.pddl_form.specs.Things.{Table}
use Rattle.pddl_form.specs.Reserved.{unsupported}
use Rattle.pddl_form.specs.Parts.{parts_of}
use Rattle.pddl_form.specs.Terms.{Scope, head_index, atom_at}
use Rattle.pddl_form.specs.Reserved.{count_at}

abbrev pub goal_in : Scope → Table → Sexp → Result Atom Fault
goal_in scope predicates tree = head_at tree >>= λ h. atom_at scope predicates h

-- the atoms behind those before them
abbrev pub atoms_from : Scope → Table → List Atom → List Sexp → Result (List Atom) Fault
atoms_from scope predicates done [] = Ok done
atoms_from scope predicates done (x ∷ xs) = goal_in scope predicates x >>= λ a. atoms_from scope predicates (done ++ a ∷ []) xs

-- the one goal that stands in `:goal`
unfoldable pub goal_at : Scope → Table → Headed → Result (List Atom) Fault
goal_at scope predicates h = do
  first ← first_at h.place h.items
  atoms ← atoms_from scope predicates [] (parts_of first.0)
  end ← end_at first.1
  Ok atoms

-- costs are kept low
abbrev pub direction_at : Named → Result (Unit {0}) Fault
direction_at w = cond (bytes_eq w.1 (codes "minimize")) (Ok tt) (unsupported w.0 w.1)

-- the total cost, and no other expression
abbrev pub is_total : Headed → Result (Unit {0}) Fault
is_total h = cond (bytes_eq h.head.1 (codes "total-cost")) (Ok tt) (unsupported h.place h.head.1)

unfoldable pub expression_at : Table → Sexp → Result (Unit {0}) Fault
expression_at functions tree = do
  h ← head_at tree
  total ← is_total h
  head ← head_index h functions
  count_at h 0

unfoldable pub measure_at : Table → Headed → Result Bool Fault
measure_at functions h = do
  first ← first_at h.place h.items
  word ← word_at first.0
  direction ← direction_at word
  second ← first_at h.place first.1
  expression ← expression_at functions second.0
  end ← end_at second.1
  Ok true

-- whether there is a metric
abbrev pub metric_at : Table → Option Headed → Result Bool Fault
metric_at functions None = Ok false
metric_at functions (Some h) = measure_at functions h
