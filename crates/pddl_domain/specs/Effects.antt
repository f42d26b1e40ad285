-- Effects, part by part.
use Rattle.std.specs.Prelude.{cond, List, [], ◌∷◌, ◌++◌, Result, Ok, Err, codes}
use Rattle.std.specs.Str.{bytes_eq}
use Rattle.bd_base.specs.declared.text_err.Cause.TheVariants as cause
use Rattle.pddl_lex.specs.declared.sexp.Sexp.{Sexp}
use Rattle.pddl_lex.specs.declared.sexp.Sexp.TheOpen.{Sexp-F}
use Rattle.pddl_lex.specs.declared.sexp.Sexp.TheViews.{out-Sexp}
use Rattle.pddl_types.specs.declared.terms.Atom.{Atom}
use Rattle.pddl_types.specs.declared.terms.CostTerm.{CostTerm}
use Rattle.pddl_types.specs.declared.terms.CostTerm.TheVariants as costs
use Rattle.pddl_form.specs.Fault.{Fault, ◌>>=◌}
use Rattle.pddl_form.specs.Trees.{Headed, headed_by, head_at, first_at}
use Rattle.pddl_form.specs.Number.{number_at}
use Rattle.pddl_form.specs.Things.{Table}
use Rattle.pddl_form.specs.Reserved.{unreserved, unsupported}
use Rattle.pddl_form.specs.Parts.{parts_of}
use Rattle.pddl_form.specs.Terms.{Scope, head_index, atom_at, delete_at}
use Rattle.pddl_form.specs.Reserved.{count_at}

-- what an effect states, in text order, and what it adds to the total cost
pub record Effect : Type 0 where
  pub add : List Atom
  pub del : List Atom
  pub cost : CostTerm

abbrev pub none : Effect
none = record { add = []; del = []; cost = costs.Absent }

abbrev pub with_add : Atom → Effect → Effect
with_add a e = record { add = e.add ++ a ∷ []; del = e.del; cost = e.cost }

abbrev pub with_del : Atom → Effect → Effect
with_del a e = record { add = e.add; del = e.del ++ a ∷ []; cost = e.cost }

abbrev pub with_cost : CostTerm → Effect → Effect
with_cost c e = record { add = e.add; del = e.del; cost = c }

-- the cost is increased once at most
abbrev pub not_yet : Headed → CostTerm → Result (Unit {0}) Fault
not_yet h costs.Absent = Ok tt
not_yet h (costs.Number n) = Err (h.place, cause.Clash h.head.1)
not_yet h (costs.Value a) = Err (h.place, cause.Clash h.head.1)

-- only the total cost is increased
unfoldable pub total_at : Table → Headed → Result (Unit {0}) Fault
total_at functions h = do
  free ← unreserved h
  head ← head_index h functions
  cond (bytes_eq h.head.1 (codes "total-cost")) (count_at h 0) (unsupported h.place h.head.1)

abbrev pub amount_in : Scope → Table → Sexp-F Sexp → Result CostTerm Fault
amount_in scope functions (Sexp-F.Word place text) = number_at (place, text) >>= λ n. Ok (costs.Number n)
amount_in scope functions (Sexp-F.List place items) = headed_by place items >>= λ h. atom_at scope functions h >>= λ a. Ok (costs.Value a)

-- a number, or a function at terms
abbrev pub amount_at : Scope → Table → Sexp → Result CostTerm Fault
amount_at scope functions tree = amount_in scope functions (out-Sexp tree)

unfoldable pub increase_at : Scope → Table → Headed → CostTerm → Result CostTerm Fault
increase_at scope functions h cost = do
  once ← not_yet h cost
  two ← count_at h 2
  first ← first_at h.place h.items
  total ← head_at first.0
  fits ← total_at functions total
  second ← first_at h.place first.1
  amount_at scope functions second.0

abbrev pub put_effect : Scope → Table → Table → Headed → Effect → Result Effect Fault
put_effect scope predicates functions h e =
    cond (bytes_eq h.head.1 (codes "not")) (delete_at scope predicates h >>= λ a. Ok (with_del a e))
    (cond (bytes_eq h.head.1 (codes "increase")) (increase_at scope functions h e.cost >>= λ c. Ok (with_cost c e)) (atom_at scope predicates h >>= λ a. Ok (with_add a e)))

abbrev pub effect_in : Scope → Table → Table → Sexp → Effect → Result Effect Fault
effect_in scope predicates functions tree e = head_at tree >>= λ h. put_effect scope predicates functions h e

abbrev pub effects_at : Scope → Table → Table → Effect → List Sexp → Result Effect Fault
effects_at scope predicates functions e [] = Ok e
effects_at scope predicates functions e (x ∷ xs) = effect_in scope predicates functions x e >>= λ more. effects_at scope predicates functions more xs

abbrev pub effect_at : Scope → Table → Table → Sexp → Result Effect Fault
effect_at scope predicates functions tree = effects_at scope predicates functions none (parts_of tree)
