-- Effects that are spelled are read, and those that are read are spelled.
use Rattle.std.proofs.Common.{◌≡◌, ◌⊎◌, inl, inr, ℕ, Bool, true, false, cond, List, [], ◌∷◌, ◌++◌, Some, Ok, refl, sym, ap, subst, ◌∙◌, append_assoc}
use Rattle.std.specs.Prelude.{codes}
use Rattle.std.proofs.lemmas.List.{append-nil}
use Rattle.std.specs.Str.{bytes_eq}
use Rattle.bd_base.specs.declared.text_err.Cause.TheVariants as cause
use Rattle.pddl_lex.specs.declared.sexp.Sexp.{Sexp}
use Rattle.pddl_lex.specs.declared.sexp.Sexp.TheOpen.{Sexp-F}
use Rattle.pddl_lex.specs.declared.sexp.Sexp.TheViews.{out-Sexp}
use Rattle.pddl_types.specs.declared.terms.CostTerm.{CostTerm}
use Rattle.pddl_types.specs.declared.terms.CostTerm.TheVariants as costs
use Rattle.pddl_form.specs.Fault.{◌>>=◌}
use Rattle.pddl_form.specs.Trees.{Headed, headed_by, head_at, first_at}
use Rattle.pddl_form.specs.Names.{place_of}
use Rattle.pddl_form.specs.Number.{value_of, number_at}
use Rattle.pddl_form.specs.Things.{Table}
use Rattle.pddl_form.specs.Reserved.{is_reserved, unreserved, unsupported, count_at}
use Rattle.pddl_form.specs.Parts.{parts_of}
use Rattle.pddl_form.specs.Terms.{Scope, head_index, atom_at, delete_at}
use Rattle.pddl_form.proofs.Laws.{bind_ok, needed_ok}
use Rattle.pddl_domain.specs.Effects.{Effect, none, with_add, with_del, with_cost, not_yet, total_at, amount_in, amount_at, increase_at, put_effect, effect_in, effects_at, effect_at}
use Rattle.pddl_laws.specs.Terms.{SpellsList}
use Rattle.pddl_laws.specs.Effects.{SpellsAmount, amount_number, amount_value, SpellsIncrease, SpellsChanges, changes_none, changes_add, changes_del, changes_cost, SpellsEffect}
use Rattle.pddl_laws.proofs.TermLemmas.{list_read, list_back, atom_read, atom_back, not_free, reserved_not, reserved_increase, word_same, count_back, first_back, two_items, no_more, not_read, not_back}

-- the first that increases the cost
abbrev pub cost_first : CostTerm → CostTerm → CostTerm
cost_first costs.Absent c = c
cost_first (costs.Number n) c = costs.Number n
cost_first (costs.Value a) c = costs.Value a

abbrev pub both : Effect → Effect → Effect
both e f = record { add = e.add ++ f.add; del = e.del ++ f.del; cost = cost_first e.cost f.cost }

-- one of them increases no cost
abbrev OnlyOne : CostTerm → CostTerm → Type 0
OnlyOne c d = (c ≡ costs.Absent) ⊎ (d ≡ costs.Absent)

cost_left : (c : CostTerm) → cost_first c costs.Absent ≡ c
cost_left costs.Absent = refl
cost_left (costs.Number n) = refl
cost_left (costs.Value a) = refl

both_none : (e : Effect) → both e none ≡ e
both_none e = rw (append-nil e.add, append-nil e.del, cost_left e.cost) refl

amount_read : {scope : Scope} {functions : Table} {tree : Sexp} {c : CostTerm} → SpellsAmount scope functions tree c → amount_at scope functions tree ≡ Ok c
amount_read (amount_number w n h v e) = rw (h, v, e) refl
amount_read {scope} {functions} (amount_value h a l s e) = rw (l.whole, l.named, atom_read scope functions h a s, e) refl

total_read : (functions : Table) (h : Headed) (i : ℕ) → h.head.1 ≡ codes "total-cost" → h.items ≡ [] → place_of (codes "total-cost") functions.names ≡ Some i → total_at functions h ≡ Ok tt
unfolding total_at is_reserved
total_read functions h i w n k = rw (w, n, k) refl

increase_read : (scope : Scope) (functions : Table) (h : Headed) (c : CostTerm) → SpellsIncrease scope functions h c → increase_at scope functions h costs.Absent ≡ Ok c
unfolding increase_at
increase_read scope functions h c s = rw (s.both, list_read s.total s.inner s.list, total_read functions s.inner s.number s.is_total s.bare s.known) (amount_read s.is_amount)

not_absent : {A : Type 0} {scope : Scope} {functions : Table} {tree : Sexp} {c : CostTerm} → SpellsAmount scope functions tree c → c ≡ costs.Absent → A
not_absent (amount_number w n h v e) q = cc
not_absent (amount_value h a l s e) q = cc

left_absent : {scope : Scope} {functions : Table} {tree : Sexp} {b c : CostTerm} → SpellsAmount scope functions tree c → OnlyOne b c → b ≡ costs.Absent
left_absent s (inl e) = e
left_absent s (inr e) = not_absent s e

changes_read : (scope : Scope) (predicates functions : Table) (before : Effect) {xs : List Sexp} {e : Effect} → SpellsChanges scope predicates functions xs e → OnlyOne before.cost e.cost → effects_at scope predicates functions before xs ≡ Ok (both before e)
changes_read scope predicates functions before (changes_none p e) one = rw (p, e, both_none before) refl
changes_read scope predicates functions before (changes_add x xs h a rest l s more p e) one =
    let read = changes_read scope predicates functions (with_add a before) more (subst (λ (f : Effect). OnlyOne before.cost f.cost) e one) in
    rw (p, e, list_read x h l, not_free h.head.1 (codes "not") reserved_not s.free, not_free h.head.1 (codes "increase") reserved_increase s.free, atom_read scope predicates h a s)
    (read ∙ rw (append_assoc before.add (a ∷ []) rest.add) refl)
changes_read scope predicates functions before (changes_del x xs h inner a rest l n o s more p e) one =
    let read = changes_read scope predicates functions (with_del a before) more (subst (λ (f : Effect). OnlyOne before.cost f.cost) e one) in
    rw (p, e, list_read x h l, not_read scope predicates h inner a o s, n) (read ∙ rw (append_assoc before.del (a ∷ []) rest.del) refl)
changes_read scope predicates functions before (changes_cost x xs h c rest l s more r p e) one =
    let read = changes_read scope predicates functions (with_cost c before) more (inr r) in
    let none_yet : before.cost ≡ costs.Absent = left_absent s.is_amount (subst (λ (f : Effect). OnlyOne before.cost f.cost) e one) in
    rw (p, e, list_read x h l, none_yet, increase_read scope functions h c s, s.is) (read ∙ rw (r, cost_left c) refl)

-- from what is read

amount_back : (scope : Scope) (functions : Table) (tree : Sexp) (l : Sexp-F Sexp) (c : CostTerm) → out-Sexp tree ≡ l → amount_in scope functions l ≡ Ok c → SpellsAmount scope functions tree c
amount_back scope functions tree (Sexp-F.Word place text) c w e =
    let b = bind_ok (number_at (place, text)) (λ n. Ok (costs.Number n)) c e in
    amount_number (place, text) b.0 w (needed_ok (place, cause.BadNumber text) (value_of text) b.0 b.1) cc
amount_back scope functions tree (Sexp-F.List place items) c w e =
    let h = bind_ok (headed_by place items) (λ h. atom_at scope functions h >>= λ a. Ok (costs.Value a)) c e in
    let b = bind_ok (atom_at scope functions h.0) (λ a. Ok (costs.Value a)) c h.2 in
    let head : head_at tree ≡ Ok h.0 = rw w h.1 in
    amount_value h.0 b.0 (list_back tree h.0 head) (atom_back scope functions h.0 b.0 b.1) cc

absent_back : (h : Headed) (c : CostTerm) (u : Unit {0}) → not_yet h c ≡ Ok u → c ≡ costs.Absent
absent_back h costs.Absent u e = refl
absent_back h (costs.Number n) u e = cc
absent_back h (costs.Value a) u e = cc

record IsTotal (functions : Table) (h : Headed) : Type 0 where
  total : h.head.1 ≡ codes "total-cost"
  bare : h.items ≡ []
  number : ℕ
  known : place_of (codes "total-cost") functions.names ≡ Some number

total_back : (functions : Table) (h : Headed) (u : Unit {0}) → total_at functions h ≡ Ok u → IsTotal functions h
unfolding total_at
total_back functions h u e =
    let r = bind_ok (unreserved h) _ u e in
    let i = bind_ok (head_index h functions) _ u r.2 in
    by_test i.0 (needed_ok (h.head.0, cause.Unknown h.head.1) (place_of h.head.1 functions.names) i.0 i.1) (bytes_eq h.head.1 (codes "total-cost")) refl i.2
  where
    by_test : (i : ℕ) → place_of h.head.1 functions.names ≡ Some i → (t : Bool) → bytes_eq h.head.1 (codes "total-cost") ≡ t → cond t (count_at h 0) (unsupported h.place h.head.1) ≡ Ok u → IsTotal functions h
    by_test i k true q c =
        let is = word_same h.head.1 (codes "total-cost") q in
        record { total = is; bare = no_more h.items (count_back h 0 u c); number = i; known = subst (λ (w : List ℕ). place_of w functions.names ≡ Some i) is k }
    by_test i k false q c = cc

record IsMore (scope : Scope) (functions : Table) (h : Headed) (before c : CostTerm) : Type 0 where
  spelled : SpellsIncrease scope functions h c
  first : before ≡ costs.Absent

increase_back : (scope : Scope) (functions : Table) (h : Headed) (before c : CostTerm) → h.head.1 ≡ codes "increase" → increase_at scope functions h before ≡ Ok c → IsMore scope functions h before c
unfolding increase_at
increase_back scope functions h before c w e =
    let o = bind_ok (not_yet h before) _ c e in
    let n = bind_ok (count_at h 2) _ c o.2 in
    let f = bind_ok (first_at h.place h.items) _ c n.2 in
    let i = bind_ok (head_at f.0.0) _ c f.2 in
    let u = bind_ok (total_at functions i.0) _ c i.2 in
    let s = bind_ok (first_at h.place f.0.1) _ c u.2 in
    let t = total_back functions i.0 u.0 u.1 in
    record {
      first = absent_back h before o.0 o.1;
      spelled = record {
        is = w;
        total = f.0.0;
        amount = s.0.0;
        both = two_items h.items f.0.0 s.0.0 f.0.1 s.0.1 (count_back h 2 n.0 n.1) (first_back h.place h.items f.0 f.1) (first_back h.place f.0.1 s.0 s.1);
        inner = i.0;
        list = list_back f.0.0 i.0 i.1;
        is_total = t.total;
        bare = t.bare;
        number = t.number;
        known = t.known;
        is_amount = amount_back scope functions s.0.0 (out-Sexp s.0.0) c refl s.2;
      };
    }

cost_behind : (before more : Effect) (c : CostTerm) → before.cost ≡ costs.Absent → more.cost ≡ costs.Absent → both (with_cost c before) more ≡ both before (record { add = more.add; del = more.del; cost = c })
cost_behind before more c f l = rw (f, l, cost_left c) refl

record AreMore (scope : Scope) (predicates functions : Table) (before : Effect) (xs : List Sexp) (all : Effect) : Type 0 where
  more : Effect
  spelled : SpellsChanges scope predicates functions xs more
  one : OnlyOne before.cost more.cost
  whole : all ≡ both before more

part_back : (scope : Scope) (predicates functions : Table) (before next all : Effect) (x : Sexp) (xs : List Sexp) (h : Headed) → SpellsList x h → put_effect scope predicates functions h before ≡ Ok next
    → AreMore scope predicates functions next xs all → AreMore scope predicates functions before (x ∷ xs) all
part_back scope predicates functions before next all x xs h l e r = by_tests (bytes_eq h.head.1 (codes "not")) (bytes_eq h.head.1 (codes "increase")) refl refl e
  where
    cost_now : (c : CostTerm) → OnlyOne c r.more.cost → (c ≡ costs.Absent → ⊥) → r.more.cost ≡ costs.Absent
    cost_now c (inl q) n = absurd (n q)
    cost_now c (inr q) n = q

    by_tests : (s t : Bool) → bytes_eq h.head.1 (codes "not") ≡ s → bytes_eq h.head.1 (codes "increase") ≡ t
        → cond s (delete_at scope predicates h >>= λ a. Ok (with_del a before)) (cond t (increase_at scope functions h before.cost >>= λ c. Ok (with_cost c before)) (atom_at scope predicates h >>= λ a. Ok (with_add a before))) ≡ Ok next → AreMore scope predicates functions before (x ∷ xs) all
    by_tests true t q p k =
        let b = bind_ok (delete_at scope predicates h) (λ a. Ok (with_del a before)) next k in
        let is : next ≡ with_del b.0 before = cc in
        let d = not_back scope predicates h b.0 b.1 in
        record {
          more = record { add = r.more.add; del = b.0 ∷ r.more.del; cost = r.more.cost };
          spelled = changes_del x xs h d.inner b.0 r.more l (word_same h.head.1 (codes "not") q) d.one d.atom r.spelled refl refl;
          one = subst (λ (f : Effect). OnlyOne f.cost r.more.cost) is r.one;
          whole = r.whole ∙ ap (λ (f : Effect). both f r.more) is ∙ rw (append_assoc before.del (b.0 ∷ []) r.more.del) refl;
        }
    by_tests false true q p k =
        let b = bind_ok (increase_at scope functions h before.cost) (λ c. Ok (with_cost c before)) next k in
        let is : next ≡ with_cost b.0 before = cc in
        let m = increase_back scope functions h before.cost b.0 (word_same h.head.1 (codes "increase") p) b.1 in
        let one : OnlyOne b.0 r.more.cost = subst (λ (f : Effect). OnlyOne f.cost r.more.cost) is r.one in
        let last : r.more.cost ≡ costs.Absent = cost_now b.0 one (λ z. not_absent m.spelled.is_amount z) in
        record {
          more = record { add = r.more.add; del = r.more.del; cost = b.0 };
          spelled = changes_cost x xs h b.0 r.more l m.spelled r.spelled last refl refl;
          one = inl m.first;
          whole = r.whole ∙ ap (λ (f : Effect). both f r.more) is ∙ cost_behind before r.more b.0 m.first last;
        }
    by_tests false false q p k =
        let b = bind_ok (atom_at scope predicates h) (λ a. Ok (with_add a before)) next k in
        let is : next ≡ with_add b.0 before = cc in
        record {
          more = record { add = b.0 ∷ r.more.add; del = r.more.del; cost = r.more.cost };
          spelled = changes_add x xs h b.0 r.more l (atom_back scope predicates h b.0 b.1) r.spelled refl refl;
          one = subst (λ (f : Effect). OnlyOne f.cost r.more.cost) is r.one;
          whole = r.whole ∙ ap (λ (f : Effect). both f r.more) is ∙ rw (append_assoc before.add (b.0 ∷ []) r.more.add) refl;
        }

effects_back : (scope : Scope) (predicates functions : Table) (before : Effect) (xs : List Sexp) (all : Effect) → effects_at scope predicates functions before xs ≡ Ok all → AreMore scope predicates functions before xs all
effects_back scope predicates functions before [] all e =
    let is : all ≡ before = cc in
    record { more = none; spelled = changes_none refl refl; one = inr refl; whole = is ∙ sym (both_none before) }
effects_back scope predicates functions before (x ∷ xs) all e =
    let b = bind_ok (effect_in scope predicates functions x before) (λ more. effects_at scope predicates functions more xs) all e in
    let h = bind_ok (head_at x) (λ h. put_effect scope predicates functions h before) b.0 b.1 in
    part_back scope predicates functions before b.0 all x xs h.0 (list_back x h.0 h.1) h.2 (effects_back scope predicates functions b.0 xs all b.2)

pub effect_read : (scope : Scope) (predicates functions : Table) (tree : Sexp) (e : Effect) → SpellsEffect scope predicates functions tree e → effect_at scope predicates functions tree ≡ Ok e
effect_read scope predicates functions tree e h = changes_read scope predicates functions none h (inl refl)

pub effect_spelled : (scope : Scope) (predicates functions : Table) (tree : Sexp) (e : Effect) → effect_at scope predicates functions tree ≡ Ok e → SpellsEffect scope predicates functions tree e
effect_spelled scope predicates functions tree e q =
    let r = effects_back scope predicates functions none (parts_of tree) e q in
    subst (SpellsChanges scope predicates functions (parts_of tree)) (sym r.whole) r.spelled
