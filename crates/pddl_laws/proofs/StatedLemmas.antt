-- What problems state is read where it is spelled, and spelled where it is read.
use Rattle.std.proofs.Common.{◌≡◌, ℕ, Bool, true, false, cond, List, [], ◌∷◌, ◌++◌, Option, Some, None, Result, Ok, Err, refl, sym, ap, subst, ◌∙◌, arith, append_assoc}
use Rattle.std.specs.Prelude.{codes, slice_get}
use Rattle.std.proofs.lemmas.List.{append-nil}
use Rattle.std.proofs.lemmas.Bool.Decides.{nat_tests}
use Rattle.std.specs.Str.{bytes_eq}
use Rattle.bd_base.specs.declared.text_err.Cause.TheVariants as cause
use Rattle.pddl_lex.specs.declared.sexp.Sexp.{Sexp}
use Rattle.pddl_lex.specs.declared.sexp.Sexp.TheViews.{out-Sexp}
use Rattle.pddl_types.specs.declared.terms.Atom.{Atom}
use Rattle.pddl_types.specs.declared.problems.Given.{Given}
use Rattle.pddl_form.specs.Fault.{Fault, ◌>>=◌}
use Rattle.pddl_form.specs.Trees.{Named, Headed, word_at, head_at, first_at, end_at}
use Rattle.pddl_form.specs.Names.{place_of}
use Rattle.pddl_form.specs.Number.{value_of, number_at}
use Rattle.pddl_form.specs.Things.{Table}
use Rattle.pddl_form.specs.Reserved.{unsupported, count_at}
use Rattle.pddl_form.specs.Parts.{parts_of}
use Rattle.pddl_form.specs.Terms.{Scope, head_index, atom_at, delete_at}
use Rattle.pddl_form.specs.Spells.{IsWord}
use Rattle.pddl_form.proofs.Laws.{bind_ok, needed_ok}
use Rattle.pddl_form.proofs.HeadedLemmas.{word_back}
use Rattle.pddl_problem.specs.Init.{Init, key_of, no_init, put_atom, is_given, with_value, is_put_by, is_put, put_value, put_number, value_at, put_item, item_in, init_from}
use Rattle.pddl_problem.specs.Goal.{goal_in, atoms_from, goal_at, direction_at, is_total, expression_at, measure_at, metric_at}
use Rattle.pddl_laws.specs.Terms.{SpellsList}
use Rattle.pddl_laws.specs.Stated.{SpellsFact, SpellsFacts, SpellsGoal, IsMetric, SpellsMetric, SpellsValue, Values, values_total, values_again, values_new, SpellsInit, init_none, init_atom, init_not, init_value}
use Rattle.pddl_laws.proofs.TermLemmas.{same, list_read, list_back, atom_read, atom_back, not_free, reserved_not, reserved_same, word_same, count_back, first_back, no_more, two_items, not_read, not_back}
use Rattle.pddl_laws.proofs.OutlineLemmas.{end_back}

-- goals

fact_read : (scope : Scope) (predicates : Table) (x : Sexp) (a : Atom) → SpellsFact scope predicates x a → goal_in scope predicates x ≡ Ok a
fact_read scope predicates x a f = rw (list_read x f.h f.list) (atom_read scope predicates f.h a f.atom)

facts_read : (scope : Scope) (predicates : Table) (done : List Atom) (xs : List Sexp) (more : List Atom) → SpellsFacts scope predicates xs more → atoms_from scope predicates done xs ≡ Ok (done ++ more)
facts_read scope predicates done [] [] h = rw (append-nil done) refl
facts_read scope predicates done [] (a ∷ more) h = absurd h
facts_read scope predicates done (x ∷ xs) [] h = absurd h
facts_read scope predicates done (x ∷ xs) (a ∷ more) h =
    rw (fact_read scope predicates x a h.0) (facts_read scope predicates (done ++ a ∷ []) xs more h.1 ∙ ap (λ (l : List Atom). Ok l) (append_assoc done (a ∷ []) more))

record AreFacts (scope : Scope) (predicates : Table) (done : List Atom) (xs : List Sexp) (all : List Atom) : Type 0 where
  more : List Atom
  facts : SpellsFacts scope predicates xs more
  whole : all ≡ done ++ more

facts_back : (scope : Scope) (predicates : Table) (done : List Atom) (xs : List Sexp) (all : List Atom) → atoms_from scope predicates done xs ≡ Ok all → AreFacts scope predicates done xs all
facts_back scope predicates done [] all e = let is : all ≡ done = cc in record { more = []; facts = tt; whole = is ∙ sym (append-nil done) }
facts_back scope predicates done (x ∷ xs) all e =
    let a = bind_ok (goal_in scope predicates x) (λ a. atoms_from scope predicates (done ++ a ∷ []) xs) all e in
    let h = bind_ok (head_at x) (λ h. atom_at scope predicates h) a.0 a.1 in
    let r = facts_back scope predicates (done ++ a.0 ∷ []) xs all a.2 in
    record {
      more = a.0 ∷ r.more;
      facts = (record { h = h.0; list = list_back x h.0 h.1; atom = atom_back scope predicates h.0 a.0 h.2 }, r.facts);
      whole = r.whole ∙ append_assoc done (a.0 ∷ []) r.more;
    }

pub goal_read : (scope : Scope) (predicates : Table) (h : Headed) (atoms : List Atom) → SpellsGoal scope predicates h atoms → goal_at scope predicates h ≡ Ok atoms
unfolding goal_at
goal_read scope predicates h atoms g = rw (g.only, facts_read scope predicates [] (parts_of g.goal) atoms g.facts) refl

pub goal_spelled : (scope : Scope) (predicates : Table) (h : Headed) (atoms : List Atom) → goal_at scope predicates h ≡ Ok atoms → SpellsGoal scope predicates h atoms
unfolding goal_at
goal_spelled scope predicates h atoms e =
    let f = bind_ok (first_at h.place h.items) _ atoms e in
    let a = bind_ok (atoms_from scope predicates [] (parts_of f.0.0)) _ atoms f.2 in
    let n = bind_ok (end_at f.0.1) _ atoms a.2 in
    let is : a.0 ≡ atoms = cc in
    let r = facts_back scope predicates [] (parts_of f.0.0) a.0 a.1 in
    record {
      goal = f.0.0;
      only = first_back h.place h.items f.0 f.1 ∙ ap (λ (xs : List Sexp). f.0.0 ∷ xs) (end_back f.0.1 n.0 n.1);
      facts = subst (SpellsFacts scope predicates (parts_of f.0.0)) (sym r.whole ∙ is) r.facts;
    }

-- the metric

measure_read : (functions : Table) (h : Headed) → IsMetric functions h → measure_at functions h ≡ Ok true
unfolding measure_at expression_at
measure_read functions h m = rw (m.both, m.direction, list_read m.expression m.inner m.list, m.is_total, m.known, m.bare) refl

total_back : (h : Headed) (u : Unit {0}) → is_total h ≡ Ok u → h.head.1 ≡ codes "total-cost"
total_back h u e = by_test (bytes_eq h.head.1 (codes "total-cost")) refl e
  where
    by_test : (t : Bool) → bytes_eq h.head.1 (codes "total-cost") ≡ t → cond t (Ok tt) (unsupported h.place h.head.1) ≡ Ok u → h.head.1 ≡ codes "total-cost"
    by_test true q k = word_same h.head.1 (codes "total-cost") q
    by_test false q k = cc

direction_back : (w : Named) (u : Unit {0}) → direction_at w ≡ Ok u → w.1 ≡ codes "minimize"
direction_back w u e = by_test (bytes_eq w.1 (codes "minimize")) refl e
  where
    by_test : (t : Bool) → bytes_eq w.1 (codes "minimize") ≡ t → cond t (Ok tt) (unsupported w.0 w.1) ≡ Ok u → w.1 ≡ codes "minimize"
    by_test true q k = word_same w.1 (codes "minimize") q
    by_test false q k = cc

record IsExpression (functions : Table) (tree : Sexp) : Type 0 where
  inner : Headed
  number : ℕ
  list : SpellsList tree inner
  is_total : inner.head.1 ≡ codes "total-cost"
  known : place_of (codes "total-cost") functions.names ≡ Some number
  bare : inner.items ≡ []

expression_back : (functions : Table) (tree : Sexp) (u : Unit {0}) → expression_at functions tree ≡ Ok u → IsExpression functions tree
unfolding expression_at
expression_back functions tree u e =
    let h = bind_ok (head_at tree) _ u e in
    let t = bind_ok (is_total h.0) _ u h.2 in
    let i = bind_ok (head_index h.0 functions) _ u t.2 in
    let is = total_back h.0 t.0 t.1 in
    let k = needed_ok (h.0.head.0, cause.Unknown h.0.head.1) (place_of h.0.head.1 functions.names) i.0 i.1 in
    record { inner = h.0; number = i.0; list = list_back tree h.0 h.1; is_total = is; known = subst (λ (w : List ℕ). place_of w functions.names ≡ Some i.0) is k; bare = no_more h.0.items (count_back h.0 0 u i.2) }

measure_back : (functions : Table) (h : Headed) (m : Bool) → measure_at functions h ≡ Ok m → IsMetric functions h × (m ≡ true)
unfolding measure_at
measure_back functions h m e =
    let f = bind_ok (first_at h.place h.items) _ m e in
    let w = bind_ok (word_at f.0.0) _ m f.2 in
    let d = bind_ok (direction_at w.0) _ m w.2 in
    let s = bind_ok (first_at h.place f.0.1) _ m d.2 in
    let x = bind_ok (expression_at functions s.0.0) _ m s.2 in
    let n = bind_ok (end_at s.0.1) _ m x.2 in
    let is : m ≡ true = cc in
    let i = expression_back functions s.0.0 x.0 x.1 in
    let rest : f.0.1 ≡ s.0.0 ∷ [] = first_back h.place f.0.1 s.0 s.1 ∙ ap (λ (xs : List Sexp). s.0.0 ∷ xs) (end_back s.0.1 n.0 n.1) in (
      record {
        word = f.0.0;
        expression = s.0.0;
        place = w.0.0;
        inner = i.inner;
        number = i.number;
        both = first_back h.place h.items f.0 f.1 ∙ ap (λ (xs : List Sexp). f.0.0 ∷ xs) rest;
        direction = subst (λ (t : List ℕ). IsWord f.0.0 (w.0.0, t)) (direction_back w.0 d.0 d.1) (word_back (out-Sexp f.0.0) w.0 w.1);
        list = i.list;
        is_total = i.is_total;
        known = i.known;
        bare = i.bare;
      },
      is,
    )

pub metric_read : (functions : Table) (section : Option Headed) (m : Bool) → SpellsMetric functions section m → metric_at functions section ≡ Ok m
metric_read functions None m e = ap (λ (b : Bool). Ok b) (sym e)
metric_read functions (Some h) m e = measure_read functions h e.0 ∙ ap (λ (b : Bool). Ok b) (sym e.1)

pub metric_spelled : (functions : Table) (section : Option Headed) (m : Bool) → metric_at functions section ≡ Ok m → SpellsMetric functions section m
metric_spelled functions None m e = cc
metric_spelled functions (Some h) m e = measure_back functions h m e

-- what holds at first

given_read : (w : Named) {name : List ℕ} {call : Atom} {number : ℕ} {s next : Init} → w.1 ≡ name → Values name call number s next → put_number w call number s ≡ Ok next
given_read w n (values_total t e) = rw (n, t, e) refl
given_read w {name} {call} {number} n (values_again i v t p g k e) = rw (n, t, p, g, k, same number, e) refl
given_read w n (values_new t p e) = rw (n, t, p, e) refl

value_read : (scope : Scope) (functions : Table) (h : Headed) (name : List ℕ) (call : Atom) (number : ℕ) (s next : Init) → SpellsValue scope functions h name call number → Values name call number s next → value_at scope functions h s ≡ Ok next
unfolding value_at
value_read scope functions h name call number s next v g =
    rw (v.both, list_read v.tree v.inner v.list, atom_read scope functions v.inner call v.atom, v.word, v.counts) (given_read v.inner.head v.named g)

init_read : {scope : Scope} {predicates functions : Table} {s : Init} {items : List Sexp} {all : Init} → SpellsInit scope predicates functions s items all → init_from scope predicates functions s items ≡ Ok all
init_read (init_none i a) = rw (i, a) refl
init_read {scope} {predicates} {functions} (init_atom x xs h a l p more i) =
    rw (i, list_read x h l, not_free h.head.1 (codes "not") reserved_not p.free, not_free h.head.1 (codes "=") reserved_same p.free, atom_read scope predicates h a p) (init_read more)
init_read {scope} {predicates} {functions} (init_not x xs h inner a l n o p more i) = rw (i, list_read x h l, not_read scope predicates h inner a o p, n) (init_read more)
init_read {scope} {predicates} {functions} {s} (init_value x xs h name call number next l v g more i) =
    rw (i, list_read x h l, value_read scope functions h name call number s next v g, v.is) (init_read more)

given_back : (o : Option Given) (number : ℕ) → is_given o number ≡ true → (v : Given) × (o ≡ Some v) × (v.number ≡ number)
given_back None number e = cc
given_back (Some v) number e = let is : v.number ≡ number = grind (arith, nat_tests) in (v, refl, is)

put_back : (w : Named) (call : Atom) (number : ℕ) (s next : Init) → bytes_eq w.1 (codes "total-cost") ≡ false → put_value w call number s ≡ Ok next → Values w.1 call number s next
put_back w call number s next t e =
    let b = bind_ok (is_put w (key_of call) number s) (λ there. Ok (cond there s (with_value call number s))) next e in
    let is : next ≡ cond b.0 s (with_value call number s) = cc in
    by_place (place_of (key_of call) s.calls) refl b.0 b.1 is
  where
    given_when : Bool → Result Bool Fault
    given_when g = cond g (Ok true) (Err (w.0, cause.Clash w.1))

    by_given : (i : ℕ) (there : Bool) (g : Bool) → place_of (key_of call) s.calls ≡ Some i → is_given (slice_get s.values i) number ≡ g → given_when g ≡ Ok there → next ≡ cond there s (with_value call number s) → Values w.1 call number s next
    by_given i there true p g q is =
        let v = given_back (slice_get s.values i) number g in
        let yes : there ≡ true = cc in
        values_again i v.0 t p v.1 v.2 (is ∙ ap (λ (b : Bool). cond b s (with_value call number s)) yes)
    by_given i there false p g q is = cc

    by_place : (o : Option ℕ) → place_of (key_of call) s.calls ≡ o → (there : Bool) → is_put_by o w number s.values ≡ Ok there → next ≡ cond there s (with_value call number s) → Values w.1 call number s next
    by_place None p there q is = let new : there ≡ false = cc in values_new t p (is ∙ ap (λ (b : Bool). cond b s (with_value call number s)) new)
    by_place (Some i) p there q is = by_given i there (is_given (slice_get s.values i) number) p refl q is

number_back : (w : Named) (call : Atom) (number : ℕ) (s next : Init) → put_number w call number s ≡ Ok next → Values w.1 call number s next
number_back w call number s next e = by_test (bytes_eq w.1 (codes "total-cost")) refl e
  where
    by_test : (t : Bool) → bytes_eq w.1 (codes "total-cost") ≡ t → cond t (Ok s) (put_value w call number s) ≡ Ok next → Values w.1 call number s next
    by_test true q k = values_total q cc
    by_test false q k = put_back w call number s next q k

record IsValue (scope : Scope) (functions : Table) (h : Headed) (s next : Init) : Type 0 where
  name : List ℕ
  call : Atom
  number : ℕ
  value : SpellsValue scope functions h name call number
  gives : Values name call number s next

value_back : (scope : Scope) (functions : Table) (h : Headed) (s next : Init) → h.head.1 ≡ codes "=" → value_at scope functions h s ≡ Ok next → IsValue scope functions h s next
unfolding value_at
value_back scope functions h s next k e =
    let c = bind_ok (count_at h 2) _ next e in
    let f = bind_ok (first_at h.place h.items) _ next c.2 in
    let i = bind_ok (head_at f.0.0) _ next f.2 in
    let a = bind_ok (atom_at scope functions i.0) _ next i.2 in
    let g = bind_ok (first_at h.place f.0.1) _ next a.2 in
    let w = bind_ok (word_at g.0.0) _ next g.2 in
    let n = bind_ok (number_at w.0) _ next w.2 in
    record {
      name = i.0.head.1;
      call = a.0;
      number = n.0;
      value = record {
        is = k;
        tree = f.0.0;
        value = g.0.0;
        inner = i.0;
        w = w.0;
        both = two_items h.items f.0.0 g.0.0 f.0.1 g.0.1 (count_back h 2 c.0 c.1) (first_back h.place h.items f.0 f.1) (first_back h.place f.0.1 g.0 g.1);
        list = list_back f.0.0 i.0 i.1;
        named = refl;
        atom = atom_back scope functions i.0 a.0 a.1;
        word = word_back (out-Sexp g.0.0) w.0 w.1;
        counts = needed_ok (w.0.0, cause.BadNumber w.0.1) (value_of w.0.1) n.0 n.1;
      };
      gives = number_back i.0.head a.0 n.0 s next n.2;
    }

item_back : (scope : Scope) (predicates functions : Table) (s next all : Init) (x : Sexp) (xs : List Sexp) (h : Headed) → SpellsList x h → put_item scope predicates functions h s ≡ Ok next → SpellsInit scope predicates functions next xs all → SpellsInit scope predicates functions s (x ∷ xs) all
item_back scope predicates functions s next all x xs h l e r = by_tests (bytes_eq h.head.1 (codes "not")) (bytes_eq h.head.1 (codes "=")) refl refl e
  where
    by_tests : (c d : Bool) → bytes_eq h.head.1 (codes "not") ≡ c → bytes_eq h.head.1 (codes "=") ≡ d
        → cond c (delete_at scope predicates h >>= λ a. Ok s) (cond d (value_at scope functions h s) (atom_at scope predicates h >>= λ a. Ok (put_atom a s))) ≡ Ok next → SpellsInit scope predicates functions s (x ∷ xs) all
    by_tests true c p q k =
        let d = bind_ok (delete_at scope predicates h) (λ a. Ok s) next k in
        let n = not_back scope predicates h d.0 d.1 in
        let is : next ≡ s = cc in
        init_not x xs h n.inner d.0 l (word_same h.head.1 (codes "not") p) n.one n.atom (subst (λ (t : Init). SpellsInit scope predicates functions t xs all) is r) refl
    by_tests false true p q k =
        let v = value_back scope functions h s next (word_same h.head.1 (codes "=") q) k in
        init_value x xs h v.name v.call v.number next l v.value v.gives r refl
    by_tests false false p q k =
        let a = bind_ok (atom_at scope predicates h) (λ a. Ok (put_atom a s)) next k in
        let is : next ≡ put_atom a.0 s = cc in
        init_atom x xs h a.0 l (atom_back scope predicates h a.0 a.1) (subst (λ (t : Init). SpellsInit scope predicates functions t xs all) is r) refl

init_back : (scope : Scope) (predicates functions : Table) (s : Init) (items : List Sexp) (all : Init) → init_from scope predicates functions s items ≡ Ok all → SpellsInit scope predicates functions s items all
init_back scope predicates functions s [] all e = init_none refl cc
init_back scope predicates functions s (x ∷ xs) all e =
    let b = bind_ok (item_in scope predicates functions x s) (λ more. init_from scope predicates functions more xs) all e in
    let h = bind_ok (head_at x) (λ h. put_item scope predicates functions h s) b.0 b.1 in
    item_back scope predicates functions s b.0 all x xs h.0 (list_back x h.0 h.1) h.2 (init_back scope predicates functions b.0 xs all b.2)

pub stated_read : (scope : Scope) (predicates functions : Table) (items : List Sexp) (all : Init) → SpellsInit scope predicates functions no_init items all → init_from scope predicates functions no_init items ≡ Ok all
stated_read scope predicates functions items all h = init_read h

pub stated_spelled : (scope : Scope) (predicates functions : Table) (items : List Sexp) (all : Init) → init_from scope predicates functions no_init items ≡ Ok all → SpellsInit scope predicates functions no_init items all
stated_spelled scope predicates functions items all e = init_back scope predicates functions no_init items all e
