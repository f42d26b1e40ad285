-- What is read of conditions and effects speaks of what is declared.
use Rattle.std.proofs.Common.{◌≡◌, ℕ, Bool, true, false, cond, List, [], ◌∷◌, Ok, length, subst}
use Rattle.std.specs.Prelude.{codes}
use Rattle.std.specs.List.{AllByRecursion}
use Rattle.std.specs.Str.{bytes_eq}
use Rattle.pddl_lex.specs.declared.sexp.Sexp.{Sexp}
use Rattle.pddl_lex.specs.declared.sexp.Sexp.TheOpen.{Sexp-F}
use Rattle.pddl_lex.specs.declared.sexp.Sexp.TheViews.{out-Sexp}
use Rattle.pddl_types.specs.declared.terms.Same.{Same}
use Rattle.pddl_types.specs.declared.terms.CostTerm.{CostTerm}
use Rattle.pddl_types.specs.declared.terms.CostTerm.TheVariants as costs
use Rattle.pddl_types.specs.Readable.{IsCost}
use Rattle.pddl_form.specs.Fault.{◌>>=◌}
use Rattle.pddl_form.specs.Trees.{Headed, headed_by, head_at, first_at}
use Rattle.pddl_form.specs.Number.{number_at}
use Rattle.pddl_form.specs.Things.{Table}
use Rattle.pddl_form.specs.Terms.{Scope, term_at, atom_at}
use Rattle.pddl_domain.specs.Conditions.{Condition, with_pre, with_equal, with_differ, two_terms, same_at, refused_not, differ_at, put_condition, condition_in, conditions_at}
use Rattle.pddl_form.specs.Reserved.{count_at}
use Rattle.pddl_domain.specs.Effects.{Effect, with_add, with_del, with_cost, not_yet, total_at, amount_in, increase_at, put_effect, effect_in, effects_at}
use Rattle.pddl_form.specs.Terms.{delete_at}
use Rattle.pddl_form.proofs.Laws.{bind_ok}
use Rattle.pddl_form.proofs.Laws.{all_more}
use Rattle.pddl_form.proofs.RangeLemmas.{InScope, term_in, IsTable, rows_of, AtomIn, atom_in}
use Rattle.pddl_form.proofs.NumberLemmas.{number_small}
use Rattle.pddl_form.proofs.RangeLemmas.{delete_in}

abbrev pub SameIn : Scope → Same → Type 0
SameIn scope s = InScope scope s.left × InScope scope s.right

two_in : (scope : Scope) (place : ℕ) (items : List Sexp) (s : Same) → two_terms scope place items ≡ Ok s → SameIn scope s
two_in scope place items s e =
    let a = bind_ok (first_at place items) _ s e in
    let l = bind_ok (term_at scope a.0.0) _ s a.2 in
    let b = bind_ok (first_at place a.0.1) _ s l.2 in
    let r = bind_ok (term_at scope b.0.0) _ s b.2 in
    let is : record { left = l.0; right = r.0 } ≡ s = cc in
    subst (SameIn scope) is (term_in scope a.0.0 l.0 l.1, term_in scope b.0.0 r.0 r.1)

same_in : (scope : Scope) (h : Headed) (s : Same) → same_at scope h ≡ Ok s → SameIn scope s
same_in scope h s e =
    let c = bind_ok (count_at h 2) (λ two. two_terms scope h.place h.items) s e in
    two_in scope h.place h.items s c.2

differ_in : (scope : Scope) (h : Headed) (s : Same) → differ_at scope h ≡ Ok s → SameIn scope s
unfolding differ_at
differ_in scope h s e =
    let c = bind_ok (count_at h 1) _ s e in
    let f = bind_ok (first_at h.place h.items) _ s c.2 in
    let i = bind_ok (head_at f.0.0) _ s f.2 in
    let r = bind_ok (refused_not h i.0) _ s i.2 in
    same_in scope i.0 s r.2

pub record ConditionIn (scope : Scope) (predicates : Table) (c : Condition) : Type 0 where
  pub pre : AllByRecursion (AtomIn scope predicates) c.pre
  pub equal : AllByRecursion (SameIn scope) c.equal
  pub differ : AllByRecursion (SameIn scope) c.differ

put_in : (scope : Scope) (predicates : Table) (h : Headed) (c more : Condition) → IsTable predicates → put_condition scope predicates h c ≡ Ok more → ConditionIn scope predicates c → ConditionIn scope predicates more
put_in scope predicates h c more same e k = by_tests (bytes_eq h.head.1 (codes "=")) (bytes_eq h.head.1 (codes "not")) e
  where
    by_tests : (s t : Bool) → cond s (same_at scope h >>= λ x. Ok (with_equal x c)) (cond t (differ_at scope h >>= λ x. Ok (with_differ x c)) (atom_at scope predicates h >>= λ a. Ok (with_pre a c))) ≡ Ok more → ConditionIn scope predicates more
    by_tests true t q =
        let b = bind_ok (same_at scope h) (λ x. Ok (with_equal x c)) more q in
        let is : with_equal b.0 c ≡ more = cc in
        subst (ConditionIn scope predicates) is (record { pre = k.pre; equal = all_more (SameIn scope) c.equal b.0 k.equal (same_in scope h b.0 b.1); differ = k.differ })
    by_tests false true q =
        let b = bind_ok (differ_at scope h) (λ x. Ok (with_differ x c)) more q in
        let is : with_differ b.0 c ≡ more = cc in
        subst (ConditionIn scope predicates) is (record { pre = k.pre; equal = k.equal; differ = all_more (SameIn scope) c.differ b.0 k.differ (differ_in scope h b.0 b.1) })
    by_tests false false q =
        let b = bind_ok (atom_at scope predicates h) (λ a. Ok (with_pre a c)) more q in
        let is : with_pre b.0 c ≡ more = cc in
        subst (ConditionIn scope predicates) is (record { pre = all_more (AtomIn scope predicates) c.pre b.0 k.pre (atom_in scope predicates h b.0 same b.1); equal = k.equal; differ = k.differ })

pub conditions_in : (scope : Scope) (predicates : Table) (c : Condition) (xs : List Sexp) (all : Condition) → IsTable predicates → conditions_at scope predicates c xs ≡ Ok all → ConditionIn scope predicates c → ConditionIn scope predicates all
conditions_in scope predicates c [] all same e k = let is : c ≡ all = cc in subst (ConditionIn scope predicates) is k
conditions_in scope predicates c (x ∷ xs) all same e k =
    let b = bind_ok (condition_in scope predicates x c) (λ more. conditions_at scope predicates more xs) all e in
    let h = bind_ok (head_at x) (λ h. put_condition scope predicates h c) b.0 b.1 in
    conditions_in scope predicates b.0 xs all same b.2 (put_in scope predicates h.0 c b.0 same h.2 k)

abbrev pub CostIn : Scope → Table → CostTerm → Type 0
CostIn scope functions c = IsCost (rows_of functions) (length scope.params) (length scope.objects) c

amount_back : (scope : Scope) (functions : Table) (l : Sexp-F Sexp) (c : CostTerm) → IsTable functions → amount_in scope functions l ≡ Ok c → CostIn scope functions c
amount_back scope functions (Sexp-F.Word place text) c same e =
    let b = bind_ok (number_at (place, text)) (λ n. Ok (costs.Number n)) c e in
    let is : costs.Number b.0 ≡ c = cc in
    subst (CostIn scope functions) is (number_small (place, text) b.0 b.1)
amount_back scope functions (Sexp-F.List place items) c same e =
    let h = bind_ok (headed_by place items) (λ h. atom_at scope functions h >>= λ a. Ok (costs.Value a)) c e in
    let b = bind_ok (atom_at scope functions h.0) (λ a. Ok (costs.Value a)) c h.2 in
    let is : costs.Value b.0 ≡ c = cc in
    subst (CostIn scope functions) is (atom_in scope functions h.0 b.0 same b.1)

increase_in : (scope : Scope) (functions : Table) (h : Headed) (before c : CostTerm) → IsTable functions → increase_at scope functions h before ≡ Ok c → CostIn scope functions c
unfolding increase_at
increase_in scope functions h before c same e =
    let o = bind_ok (not_yet h before) _ c e in
    let t = bind_ok (count_at h 2) _ c o.2 in
    let f = bind_ok (first_at h.place h.items) _ c t.2 in
    let i = bind_ok (head_at f.0.0) _ c f.2 in
    let u = bind_ok (total_at functions i.0) _ c i.2 in
    let s = bind_ok (first_at h.place f.0.1) _ c u.2 in
    amount_back scope functions (out-Sexp s.0.0) c same s.2

pub record EffectIn (scope : Scope) (predicates functions : Table) (e : Effect) : Type 0 where
  pub add : AllByRecursion (AtomIn scope predicates) e.add
  pub del : AllByRecursion (AtomIn scope predicates) e.del
  pub cost : CostIn scope functions e.cost

put_effect_in : (scope : Scope) (predicates functions : Table) (h : Headed) (c more : Effect) → IsTable predicates → IsTable functions → put_effect scope predicates functions h c ≡ Ok more → EffectIn scope predicates functions c → EffectIn scope predicates functions more
put_effect_in scope predicates functions h c more same too e k = by_tests (bytes_eq h.head.1 (codes "not")) (bytes_eq h.head.1 (codes "increase")) e
  where
    by_tests : (s t : Bool) → cond s (delete_at scope predicates h >>= λ a. Ok (with_del a c)) (cond t (increase_at scope functions h c.cost >>= λ x. Ok (with_cost x c)) (atom_at scope predicates h >>= λ a. Ok (with_add a c))) ≡ Ok more → EffectIn scope predicates functions more
    by_tests true t q =
        let b = bind_ok (delete_at scope predicates h) (λ a. Ok (with_del a c)) more q in
        let is : with_del b.0 c ≡ more = cc in
        subst (EffectIn scope predicates functions) is (record { add = k.add; del = all_more (AtomIn scope predicates) c.del b.0 k.del (delete_in scope predicates h b.0 same b.1); cost = k.cost })
    by_tests false true q =
        let b = bind_ok (increase_at scope functions h c.cost) (λ x. Ok (with_cost x c)) more q in
        let is : with_cost b.0 c ≡ more = cc in
        subst (EffectIn scope predicates functions) is (record { add = k.add; del = k.del; cost = increase_in scope functions h c.cost b.0 too b.1 })
    by_tests false false q =
        let b = bind_ok (atom_at scope predicates h) (λ a. Ok (with_add a c)) more q in
        let is : with_add b.0 c ≡ more = cc in
        subst (EffectIn scope predicates functions) is (record { add = all_more (AtomIn scope predicates) c.add b.0 k.add (atom_in scope predicates h b.0 same b.1); del = k.del; cost = k.cost })

pub effects_in : (scope : Scope) (predicates functions : Table) (c : Effect) (xs : List Sexp) (all : Effect) → IsTable predicates → IsTable functions → effects_at scope predicates functions c xs ≡ Ok all → EffectIn scope predicates functions c → EffectIn scope predicates functions all
effects_in scope predicates functions c [] all same too e k = let is : c ≡ all = cc in subst (EffectIn scope predicates functions) is k
effects_in scope predicates functions c (x ∷ xs) all same too e k =
    let b = bind_ok (effect_in scope predicates functions x c) (λ more. effects_at scope predicates functions more xs) all e in
    let h = bind_ok (head_at x) (λ h. put_effect scope predicates functions h c) b.0 b.1 in
    effects_in scope predicates functions b.0 xs all same too b.2 (put_effect_in scope predicates functions h.0 c b.0 same too h.2 k)
