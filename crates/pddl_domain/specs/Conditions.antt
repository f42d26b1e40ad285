-- Preconditions, part by part.
use Rattle.std.specs.Prelude.{ℕ, cond, List, [], ◌∷◌, ◌++◌, Result, Ok, codes}
use Rattle.std.specs.Str.{bytes_eq}
use Rattle.pddl_lex.specs.declared.sexp.Sexp.{Sexp}
use Rattle.pddl_form.specs.Fault.{Fault, ◌>>=◌}
use Rattle.pddl_form.specs.Trees.{Headed, head_at, first_at}
use Rattle.pddl_form.specs.Things.{Table}
use Rattle.pddl_form.specs.Reserved.{is_reserved, unsupported, count_at}
use Rattle.pddl_form.specs.Parts.{parts_of}
use Rattle.pddl_form.specs.Terms.{Scope, term_at, atom_at}
use Rattle.pddl_types.specs.declared.terms.Atom.{Atom}
use Rattle.pddl_types.specs.declared.terms.Same.{Same}

-- what a precondition states, in text order
pub record Condition : Type 0 where
  pub pre : List Atom
  pub equal : List Same
  pub differ : List Same

abbrev pub none : Condition
none = record { pre = []; equal = []; differ = [] }

abbrev pub with_pre : Atom → Condition → Condition
with_pre a c = record { pre = c.pre ++ a ∷ []; equal = c.equal; differ = c.differ }

abbrev pub with_equal : Same → Condition → Condition
with_equal s c = record { pre = c.pre; equal = c.equal ++ s ∷ []; differ = c.differ }

abbrev pub with_differ : Same → Condition → Condition
with_differ s c = record { pre = c.pre; equal = c.equal; differ = c.differ ++ s ∷ [] }

abbrev pub two_terms : Scope → ℕ → List Sexp → Result Same Fault
two_terms scope place items = do
  first ← first_at place items
  left ← term_at scope first.0
  second ← first_at place first.1
  right ← term_at scope second.0
  Ok (record { left = left; right = right })

-- an equation of two terms
abbrev pub same_at : Scope → Headed → Result Same Fault
same_at scope h = count_at h 2 >>= λ two. two_terms scope h.place h.items

-- only an equation may stand under `not`
abbrev pub refused_not : Headed → Headed → Result (Unit {0}) Fault
refused_not h inner = cond (bytes_eq inner.head.1 (codes "=")) (Ok tt) (cond (is_reserved inner.head.1) (unsupported inner.place inner.head.1) (unsupported h.place h.head.1))

unfoldable pub differ_at : Scope → Headed → Result Same Fault
differ_at scope h = do
  one ← count_at h 1
  first ← first_at h.place h.items
  inner ← head_at first.0
  equation ← refused_not h inner
  same_at scope inner

abbrev pub put_condition : Scope → Table → Headed → Condition → Result Condition Fault
put_condition scope predicates h c =
    cond (bytes_eq h.head.1 (codes "=")) (same_at scope h >>= λ s. Ok (with_equal s c))
    (cond (bytes_eq h.head.1 (codes "not")) (differ_at scope h >>= λ s. Ok (with_differ s c)) (atom_at scope predicates h >>= λ a. Ok (with_pre a c)))

abbrev pub condition_in : Scope → Table → Sexp → Condition → Result Condition Fault
condition_in scope predicates tree c = head_at tree >>= λ h. put_condition scope predicates h c

abbrev pub conditions_at : Scope → Table → Condition → List Sexp → Result Condition Fault
conditions_at scope predicates c [] = Ok c
conditions_at scope predicates c (x ∷ xs) = condition_in scope predicates x c >>= λ more. conditions_at scope predicates more xs

abbrev pub condition_at : Scope → Table → Sexp → Result Condition Fault
condition_at scope predicates tree = conditions_at scope predicates none (parts_of tree)
