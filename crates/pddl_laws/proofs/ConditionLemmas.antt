-- Preconditions that are spelled are read, and those that are read are spelled.
use Rattle.std.proofs.Common.{◌≡◌, Bool, true, false, cond, List, [], ◌∷◌, ◌++◌, Ok, refl, sym, ap, subst, ◌∙◌, append_assoc}
use Rattle.std.specs.Prelude.{codes}
use Rattle.std.proofs.lemmas.List.{append-nil}
use Rattle.std.specs.Str.{bytes_eq}
use Rattle.pddl_lex.specs.declared.sexp.Sexp.{Sexp}
use Rattle.pddl_types.specs.declared.terms.Same.{Same}
use Rattle.pddl_form.specs.Fault.{◌>>=◌}
use Rattle.pddl_form.specs.Trees.{Headed, head_at, first_at}
use Rattle.pddl_form.specs.Things.{Table}
use Rattle.pddl_form.specs.Reserved.{is_reserved, unsupported, count_at}
use Rattle.pddl_form.specs.Parts.{parts_of}
use Rattle.pddl_form.specs.Terms.{Scope, term_at, atom_at}
use Rattle.pddl_form.proofs.Laws.{bind_ok}
use Rattle.pddl_domain.specs.Conditions.{Condition, none, with_pre, with_equal, with_differ, two_terms, same_at, refused_not, differ_at, put_condition, condition_in, conditions_at, condition_at}
use Rattle.pddl_laws.specs.Terms.{SpellsList, HasOne}
use Rattle.pddl_laws.specs.Conditions.{SpellsSame, SpellsParts, parts_none, parts_atom, parts_same, parts_differ, SpellsCondition}
use Rattle.pddl_laws.proofs.TermLemmas.{list_read, list_back, one_term, term_back, atom_read, atom_back, not_free, reserved_not, reserved_same, word_same, count_back, first_back, one_item, two_items}

-- what is stated first, and what is stated behind it
abbrev pub both : Condition → Condition → Condition
both c d = record { pre = c.pre ++ d.pre; equal = c.equal ++ d.equal; differ = c.differ ++ d.differ }

both_none : (c : Condition) → both c none ≡ c
both_none c = rw (append-nil c.pre, append-nil c.equal, append-nil c.differ) refl

same_read : (scope : Scope) (h : Headed) (s : Same) → SpellsSame scope h s → same_at scope h ≡ Ok s
same_read scope h s k = rw (k.both, one_term k.is_left, one_term k.is_right) refl

differ_read : (scope : Scope) (h inner : Headed) (s : Same) → HasOne h inner → SpellsSame scope inner s → differ_at scope h ≡ Ok s
unfolding differ_at
differ_read scope h inner s o k = rw (o.only, list_read o.tree inner o.list, same_read scope inner s k, k.is) refl

conditions_read : (scope : Scope) (predicates : Table) (before : Condition) {xs : List Sexp} {c : Condition} → SpellsParts scope predicates xs c → conditions_at scope predicates before xs ≡ Ok (both before c)
conditions_read scope predicates before (parts_none p e) = rw (p, e, both_none before) refl
conditions_read scope predicates before (parts_atom x xs h a rest l s more p e) =
    let read = conditions_read scope predicates (with_pre a before) more in
    rw (p, e, list_read x h l, not_free h.head.1 (codes "=") reserved_same s.free, not_free h.head.1 (codes "not") reserved_not s.free, atom_read scope predicates h a s)
    (read ∙ rw (append_assoc before.pre (a ∷ []) rest.pre) refl)
conditions_read scope predicates before (parts_same x xs h s rest l k more p e) =
    let read = conditions_read scope predicates (with_equal s before) more in
    rw (p, e, list_read x h l, same_read scope h s k, k.is) (read ∙ rw (append_assoc before.equal (s ∷ []) rest.equal) refl)
conditions_read scope predicates before (parts_differ x xs h inner s rest l n o k more p e) =
    let read = conditions_read scope predicates (with_differ s before) more in
    rw (p, e, list_read x h l, differ_read scope h inner s o k, n) (read ∙ rw (append_assoc before.differ (s ∷ []) rest.differ) refl)

-- from what is read

two_back : (scope : Scope) (h : Headed) (s : Same) → same_at scope h ≡ Ok s → h.head.1 ≡ codes "=" → SpellsSame scope h s
two_back scope h s e k =
    let n = bind_ok (count_at h 2) (λ two. two_terms scope h.place h.items) s e in
    let a = bind_ok (first_at h.place h.items) _ s n.2 in
    let l = bind_ok (term_at scope a.0.0) _ s a.2 in
    let b = bind_ok (first_at h.place a.0.1) _ s l.2 in
    let r = bind_ok (term_at scope b.0.0) _ s b.2 in
    let is : record { left = l.0; right = r.0 } ≡ s = cc in
    subst (SpellsSame scope h) is (record {
      is = k;
      left = a.0.0;
      right = b.0.0;
      both = two_items h.items a.0.0 b.0.0 a.0.1 b.0.1 (count_back h 2 n.0 n.1) (first_back h.place h.items a.0 a.1) (first_back h.place a.0.1 b.0 b.1);
      is_left = term_back scope a.0.0 l.0 l.1;
      is_right = term_back scope b.0.0 r.0 r.1;
    })

record IsDiffer (scope : Scope) (h : Headed) (s : Same) : Type 0 where
  inner : Headed
  one : HasOne h inner
  spelled : SpellsSame scope inner s

refused_back : (h inner : Headed) (u : Unit {0}) → refused_not h inner ≡ Ok u → inner.head.1 ≡ codes "="
refused_back h inner u e = by_tests (bytes_eq inner.head.1 (codes "=")) (is_reserved inner.head.1) refl e
  where
    by_tests : (s t : Bool) → bytes_eq inner.head.1 (codes "=") ≡ s → cond s (Ok tt) (cond t (unsupported inner.place inner.head.1) (unsupported h.place h.head.1)) ≡ Ok u → inner.head.1 ≡ codes "="
    by_tests true t q k = word_same inner.head.1 (codes "=") q
    by_tests false true q k = cc
    by_tests false false q k = cc

differ_back : (scope : Scope) (h : Headed) (s : Same) → differ_at scope h ≡ Ok s → IsDiffer scope h s
unfolding differ_at
differ_back scope h s e =
    let c = bind_ok (count_at h 1) _ s e in
    let f = bind_ok (first_at h.place h.items) _ s c.2 in
    let i = bind_ok (head_at f.0.0) _ s f.2 in
    let r = bind_ok (refused_not h i.0) _ s i.2 in
    record {
      inner = i.0;
      one = record { tree = f.0.0; only = one_item h.items f.0.0 f.0.1 (count_back h 1 c.0 c.1) (first_back h.place h.items f.0 f.1); list = list_back f.0.0 i.0 i.1 };
      spelled = two_back scope i.0 s r.2 (refused_back h i.0 r.0 r.1);
    }

-- what is stated behind what was stated before
record AreMore (scope : Scope) (predicates : Table) (before : Condition) (xs : List Sexp) (all : Condition) : Type 0 where
  more : Condition
  spelled : SpellsParts scope predicates xs more
  whole : all ≡ both before more

part_back : (scope : Scope) (predicates : Table) (before next all : Condition) (x : Sexp) (xs : List Sexp) (h : Headed) → SpellsList x h → put_condition scope predicates h before ≡ Ok next → AreMore scope predicates next xs all → AreMore scope predicates before (x ∷ xs) all
part_back scope predicates before next all x xs h l e r = by_tests (bytes_eq h.head.1 (codes "=")) (bytes_eq h.head.1 (codes "not")) refl refl e
  where
    by_tests : (s t : Bool) → bytes_eq h.head.1 (codes "=") ≡ s → bytes_eq h.head.1 (codes "not") ≡ t
        → cond s (same_at scope h >>= λ x. Ok (with_equal x before)) (cond t (differ_at scope h >>= λ x. Ok (with_differ x before)) (atom_at scope predicates h >>= λ a. Ok (with_pre a before))) ≡ Ok next → AreMore scope predicates before (x ∷ xs) all
    by_tests true t q p k =
        let b = bind_ok (same_at scope h) (λ x. Ok (with_equal x before)) next k in
        let is : next ≡ with_equal b.0 before = cc in
        record {
          more = record { pre = r.more.pre; equal = b.0 ∷ r.more.equal; differ = r.more.differ };
          spelled = parts_same x xs h b.0 r.more l (two_back scope h b.0 b.1 (word_same h.head.1 (codes "=") q)) r.spelled refl refl;
          whole = r.whole ∙ ap (λ (c : Condition). both c r.more) is ∙ rw (append_assoc before.equal (b.0 ∷ []) r.more.equal) refl;
        }
    by_tests false true q p k =
        let b = bind_ok (differ_at scope h) (λ x. Ok (with_differ x before)) next k in
        let is : next ≡ with_differ b.0 before = cc in
        let d = differ_back scope h b.0 b.1 in
        record {
          more = record { pre = r.more.pre; equal = r.more.equal; differ = b.0 ∷ r.more.differ };
          spelled = parts_differ x xs h d.inner b.0 r.more l (word_same h.head.1 (codes "not") p) d.one d.spelled r.spelled refl refl;
          whole = r.whole ∙ ap (λ (c : Condition). both c r.more) is ∙ rw (append_assoc before.differ (b.0 ∷ []) r.more.differ) refl;
        }
    by_tests false false q p k =
        let b = bind_ok (atom_at scope predicates h) (λ a. Ok (with_pre a before)) next k in
        let is : next ≡ with_pre b.0 before = cc in
        record {
          more = record { pre = b.0 ∷ r.more.pre; equal = r.more.equal; differ = r.more.differ };
          spelled = parts_atom x xs h b.0 r.more l (atom_back scope predicates h b.0 b.1) r.spelled refl refl;
          whole = r.whole ∙ ap (λ (c : Condition). both c r.more) is ∙ rw (append_assoc before.pre (b.0 ∷ []) r.more.pre) refl;
        }

conditions_back : (scope : Scope) (predicates : Table) (before : Condition) (xs : List Sexp) (all : Condition) → conditions_at scope predicates before xs ≡ Ok all → AreMore scope predicates before xs all
conditions_back scope predicates before [] all e = let is : all ≡ before = cc in record { more = none; spelled = parts_none refl refl; whole = is ∙ sym (both_none before) }
conditions_back scope predicates before (x ∷ xs) all e =
    let b = bind_ok (condition_in scope predicates x before) (λ more. conditions_at scope predicates more xs) all e in
    let h = bind_ok (head_at x) (λ h. put_condition scope predicates h before) b.0 b.1 in
    part_back scope predicates before b.0 all x xs h.0 (list_back x h.0 h.1) h.2 (conditions_back scope predicates b.0 xs all b.2)

pub condition_read : (scope : Scope) (predicates : Table) (tree : Sexp) (c : Condition) → SpellsCondition scope predicates tree c → condition_at scope predicates tree ≡ Ok c
condition_read scope predicates tree c h = conditions_read scope predicates none h

pub condition_spelled : (scope : Scope) (predicates : Table) (tree : Sexp) (c : Condition) → condition_at scope predicates tree ≡ Ok c → SpellsCondition scope predicates tree c
condition_spelled scope predicates tree c e =
    let r = conditions_back scope predicates none (parts_of tree) c e in
    subst (SpellsParts scope predicates (parts_of tree)) (sym r.whole) r.spelled
