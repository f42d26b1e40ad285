-- What is read of a problem's statements is over its terms.
use Rattle.std.proofs.Common.{◌≡◌, ℕ, ◌≤◌, Bool, true, false, cond, List, [], ◌∷◌, ◌++◌, Option, Some, None, Ok, Err, map, refl, sym, ap, subst, ◌∙◌}
use Rattle.std.specs.Prelude.{codes, slice_get}
use Rattle.bd_base.specs.declared.text_err.Cause.TheVariants as cause
use Rattle.std.specs.List.{AllByRecursion}
use Rattle.std.specs.Str.{bytes_eq}
use Rattle.pddl_lex.specs.declared.sexp.Sexp.{Sexp}
use Rattle.pddl_types.specs.declared.terms.Atom.{Atom}
use Rattle.pddl_types.specs.declared.problems.Given.{Given}
use Rattle.pddl_form.specs.Fault.{Fault, ◌>>=◌}
use Rattle.pddl_form.specs.Trees.{Named, Headed, word_at, head_at, first_at, end_at}
use Rattle.pddl_form.specs.Names.{place_of, is_declared}
use Rattle.pddl_form.specs.Number.{most, number_at}
use Rattle.pddl_form.specs.Parts.{parts_of}
use Rattle.pddl_form.specs.Things.{Table}
use Rattle.pddl_form.specs.Terms.{Scope, atom_at}
use Rattle.pddl_form.specs.Reserved.{count_at}
use Rattle.pddl_form.specs.Terms.{delete_at}
use Rattle.pddl_problem.specs.Init.{Init, key_of, with_atom, put_atom, with_key, with_value, is_given, is_put_by, is_put, put_value, put_number, value_at, put_item, item_in, init_from}
use Rattle.pddl_problem.specs.Goal.{goal_in, atoms_from, goal_at}
use Rattle.pddl_form.proofs.Laws.{bind_ok}
use Rattle.pddl_form.proofs.Laws.{all_more}
use Rattle.pddl_form.proofs.RangeLemmas.{IsTable, AtomIn, atom_in}
use Rattle.pddl_form.proofs.NumberLemmas.{number_small}
use Rattle.pddl_form.specs.Spells.{AreNew}
use Rattle.pddl_form.proofs.NameLemmas.{absent}
use Rattle.pddl_form.proofs.TableLemmas.{new_more}

abbrev pub GivenIn : Scope → Table → Given → Type 0
GivenIn scope functions v = AtomIn scope functions v.call × (v.number ≤ most)

pub record InitIn (scope : Scope) (predicates functions : Table) (s : Init) : Type 0 where
  pub atoms : AllByRecursion (AtomIn scope predicates) s.atoms
  pub values : AllByRecursion (GivenIn scope functions) s.values
  pub keys : s.keys ≡ map key_of s.atoms
  pub once : AreNew [] s.keys
  pub calls : s.calls ≡ map (λ v. key_of v.call) s.values
  pub given : AreNew [] s.calls

map_more : {A B : Type 0} (f : A → B) (xs : List A) (x : A) → map f (xs ++ x ∷ []) ≡ map f xs ++ f x ∷ []
map_more f [] x = refl
map_more f (y ∷ xs) x = ap (λ l. f y ∷ l) (map_more f xs x)

atom_put : (scope : Scope) (predicates functions : Table) (a : Atom) (s : Init) → AtomIn scope predicates a → InitIn scope predicates functions s → InitIn scope predicates functions (put_atom a s)
atom_put scope predicates functions a s h k = by_test (is_declared (key_of a) s.keys) refl
  where
    by_test : (t : Bool) → is_declared (key_of a) s.keys ≡ t → InitIn scope predicates functions (cond t s (with_atom a s))
    by_test true q = k
    by_test false q = record {
      atoms = all_more (AtomIn scope predicates) s.atoms a k.atoms h;
      values = k.values;
      keys = ap (λ (l : List (List ℕ)). l ++ key_of a ∷ []) k.keys ∙ sym (map_more key_of s.atoms a);
      once = new_more [] s.keys (key_of a) k.once q;
      calls = k.calls;
      given = k.given;
    }

none_by : (w : Named) (n : ℕ) (values : List Given) (r : Option ℕ) → is_put_by r w n values ≡ Ok false → r ≡ None
none_by w n values None e = refl
none_by w n values (Some i) e = by_test (is_given (slice_get values i) n) (w.0, cause.Clash w.1) e
  where
    by_test : (t : Bool) (f : Fault) → cond t (Ok true) (Err f) ≡ Ok false → Some i ≡ None
    by_test true f q = cc
    by_test false f q = cc

is_new : (w : Named) (key : List ℕ) (n : ℕ) (s : Init) → is_put w key n s ≡ Ok false → is_declared key s.calls ≡ false
is_new w key n s e = absent key s.calls (none_by w n s.values (place_of key s.calls) e)

value_put : (scope : Scope) (predicates functions : Table) (w : Named) (a : Atom) (n : ℕ) (s more : Init) → AtomIn scope functions a → n ≤ most → put_number w a n s ≡ Ok more → InitIn scope predicates functions s → InitIn scope predicates functions more
value_put scope predicates functions w a n s more h l e k = by_test (bytes_eq w.1 (codes "total-cost")) e
  where
    by_there : (t : Bool) → is_put w (key_of a) n s ≡ Ok t → InitIn scope predicates functions (cond t s (with_value a n s))
    by_there true q = k
    by_there false q =
        let new = is_new w (key_of a) n s q in
        let whole : with_key (key_of a) s.calls ≡ s.calls ++ key_of a ∷ [] = rw new refl in
        record {
          atoms = k.atoms;
          values = all_more (GivenIn scope functions) s.values (record { call = a; number = n }) k.values (h, l);
          keys = k.keys;
          once = k.once;
          calls = whole ∙ ap (λ (c : List (List ℕ)). c ++ key_of a ∷ []) k.calls ∙ sym (map_more (λ v. key_of v.call) s.values (record { call = a; number = n }));
          given = subst (AreNew []) (sym whole) (new_more [] s.calls (key_of a) k.given new);
        }

    by_test : (t : Bool) → cond t (Ok s) (put_value w a n s) ≡ Ok more → InitIn scope predicates functions more
    by_test true q = let is : s ≡ more = cc in subst (InitIn scope predicates functions) is k
    by_test false q =
        let b = bind_ok (is_put w (key_of a) n s) (λ there. Ok (cond there s (with_value a n s))) more q in
        let is : cond b.0 s (with_value a n s) ≡ more = cc in
        subst (InitIn scope predicates functions) is (by_there b.0 b.1)

value_in : (scope : Scope) (predicates functions : Table) (h : Headed) (s more : Init) → IsTable functions → value_at scope functions h s ≡ Ok more → InitIn scope predicates functions s → InitIn scope predicates functions more
unfolding value_at
value_in scope predicates functions h s more same e k =
    let c = bind_ok (count_at h 2) _ more e in
    let f = bind_ok (first_at h.place h.items) _ more c.2 in
    let i = bind_ok (head_at f.0.0) _ more f.2 in
    let a = bind_ok (atom_at scope functions i.0) _ more i.2 in
    let x = bind_ok (first_at h.place f.0.1) _ more a.2 in
    let w = bind_ok (word_at x.0.0) _ more x.2 in
    let n = bind_ok (number_at w.0) _ more w.2 in
    value_put scope predicates functions i.0.head a.0 n.0 s more (atom_in scope functions i.0 a.0 same a.1) (number_small w.0 n.0 n.1) n.2 k

put_in : (scope : Scope) (predicates functions : Table) (h : Headed) (s more : Init) → IsTable predicates → IsTable functions → put_item scope predicates functions h s ≡ Ok more → InitIn scope predicates functions s → InitIn scope predicates functions more
put_in scope predicates functions h s more same too e k = by_tests (bytes_eq h.head.1 (codes "not")) (bytes_eq h.head.1 (codes "=")) e
  where
    by_tests : (t u : Bool) → cond t (delete_at scope predicates h >>= λ a. Ok s) (cond u (value_at scope functions h s) (atom_at scope predicates h >>= λ a. Ok (put_atom a s))) ≡ Ok more → InitIn scope predicates functions more
    by_tests true u q =
        let b = bind_ok (delete_at scope predicates h) (λ a. Ok s) more q in
        let is : s ≡ more = cc in
        subst (InitIn scope predicates functions) is k
    by_tests false true q = value_in scope predicates functions h s more too q k
    by_tests false false q =
        let b = bind_ok (atom_at scope predicates h) (λ a. Ok (put_atom a s)) more q in
        let is : put_atom b.0 s ≡ more = cc in
        subst (InitIn scope predicates functions) is (atom_put scope predicates functions b.0 s (atom_in scope predicates h b.0 same b.1) k)

pub init_in : (scope : Scope) (predicates functions : Table) (s : Init) (xs : List Sexp) (all : Init) → IsTable predicates → IsTable functions → init_from scope predicates functions s xs ≡ Ok all → InitIn scope predicates functions s → InitIn scope predicates functions all
init_in scope predicates functions s [] all same too e k = let is : s ≡ all = cc in subst (InitIn scope predicates functions) is k
init_in scope predicates functions s (x ∷ xs) all same too e k =
    let b = bind_ok (item_in scope predicates functions x s) (λ more. init_from scope predicates functions more xs) all e in
    let h = bind_ok (head_at x) (λ h. put_item scope predicates functions h s) b.0 b.1 in
    init_in scope predicates functions b.0 xs all same too b.2 (put_in scope predicates functions h.0 s b.0 same too h.2 k)

atoms_in : (scope : Scope) (predicates : Table) (done : List Atom) (xs : List Sexp) (all : List Atom) → IsTable predicates → atoms_from scope predicates done xs ≡ Ok all → AllByRecursion (AtomIn scope predicates) done → AllByRecursion (AtomIn scope predicates) all
atoms_in scope predicates done [] all same e k = let is : done ≡ all = cc in subst (AllByRecursion (AtomIn scope predicates)) is k
atoms_in scope predicates done (x ∷ xs) all same e k =
    let b = bind_ok (goal_in scope predicates x) (λ a. atoms_from scope predicates (done ++ a ∷ []) xs) all e in
    let h = bind_ok (head_at x) (λ h. atom_at scope predicates h) b.0 b.1 in
    atoms_in scope predicates (done ++ b.0 ∷ []) xs all same b.2 (all_more (AtomIn scope predicates) done b.0 k (atom_in scope predicates h.0 b.0 same h.2))

pub goal_fits : (scope : Scope) (predicates : Table) (h : Headed) (all : List Atom) → IsTable predicates → goal_at scope predicates h ≡ Ok all → AllByRecursion (AtomIn scope predicates) all
unfolding goal_at
goal_fits scope predicates h all same e =
    let f = bind_ok (first_at h.place h.items) _ all e in
    let a = bind_ok (atoms_from scope predicates [] (parts_of f.0.0)) _ all f.2 in
    let n = bind_ok (end_at f.0.1) _ all a.2 in
    let is : a.0 ≡ all = cc in
    subst (AllByRecursion (AtomIn scope predicates)) is (atoms_in scope predicates [] (parts_of f.0.0) a.0 same a.1 tt)
