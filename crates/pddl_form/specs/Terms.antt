-- Atoms over declared names.
use Rattle.std.specs.Prelude.{ℕ, ◌==◌, cond, List, [], ◌∷◌, ◌++◌, Option, Some, None, Result, Ok, Err, length, slice_get}
use Rattle.bd_base.specs.declared.text_err.Cause.TheVariants as cause
use Rattle.pddl_lex.specs.declared.sexp.Sexp.{Sexp}
use Rattle.pddl_form.specs.Fault.{Fault, ◌>>=◌, needed}
use Rattle.pddl_form.specs.Trees.{Named, Headed, word_at, head_at, first_at}
use Rattle.pddl_form.specs.Names.{place_of}
use Rattle.pddl_form.specs.Things.{Table}
use Rattle.pddl_form.specs.Reserved.{unreserved, count_at}
use Rattle.pddl_types.specs.declared.terms.Term.{Term}
use Rattle.pddl_types.specs.declared.terms.Term.TheVariants as terms
use Rattle.pddl_types.specs.declared.terms.Atom.{Atom}

-- the names that a term may be
pub record Scope : Type 0 where
  pub params : List (List ℕ)
  pub objects : List (List ℕ)

abbrev pub object_by : Named → Option ℕ → Result Term Fault
object_by w None = Err (w.0, cause.Unknown w.1)
object_by w (Some i) = Ok (terms.Object i)

abbrev pub term_by : Scope → Named → Option ℕ → Result Term Fault
term_by scope w (Some i) = Ok (terms.Param i)
term_by scope w None = object_by w (place_of w.1 scope.objects)

abbrev pub term_at : Scope → Sexp → Result Term Fault
term_at scope tree = word_at tree >>= λ w. term_by scope w (place_of w.1 scope.params)

-- the terms that the items are, behind those of a list
abbrev pub terms_at : Scope → List Term → List Sexp → Result (List Term) Fault
terms_at scope done [] = Ok done
terms_at scope done (x ∷ xs) = term_at scope x >>= λ t. terms_at scope (done ++ t ∷ []) xs

abbrev pub head_index : Headed → Table → Result ℕ Fault
head_index h table = needed (h.head.0, cause.Unknown h.head.1) (place_of h.head.1 table.names)

abbrev pub arity_fits : Headed → Option ℕ → Result (Unit {0}) Fault
arity_fits h None = Err (h.place, cause.Arity h.head.1)
arity_fits h (Some n) = cond (n == length h.items) (Ok tt) (Err (h.place, cause.Arity h.head.1))

unfoldable pub atom_at : Scope → Table → Headed → Result Atom Fault
atom_at scope table h = do
  free ← unreserved h
  head ← head_index h table
  fits ← arity_fits h (slice_get table.numbers head)
  args ← terms_at scope [] h.items
  Ok (record { head = head; args = args })

-- an atom under `not`
unfoldable pub delete_at : Scope → Table → Headed → Result Atom Fault
delete_at scope predicates h = do
  one ← count_at h 1
  first ← first_at h.place h.items
  inner ← head_at first.0
  atom_at scope predicates inner
