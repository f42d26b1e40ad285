-- Terms and atoms that are spelled are read, and those that are read are spelled.
use Rattle.std.proofs.Common.{◌≡◌, ℕ, ◌==◌, Bool, true, false, cond, List, [], ◌∷◌, ◌++◌, Option, Some, None, Ok, Err, length, refl, sym, ap, subst, ◌∙◌, arith, append_assoc}
use Rattle.std.specs.Prelude.{slice_get, codes}
use Rattle.std.proofs.lemmas.List.{append-nil}
use Rattle.std.proofs.lemmas.Bool.Decides.{nat_tests}
use Rattle.std.proofs.lemmas.Slice.Eq.{bytes_eq-Decides}
use Rattle.std.specs.Str.{bytes_eq}
use Rattle.bd_base.specs.declared.text_err.Cause.TheVariants as cause
use Rattle.pddl_lex.specs.declared.sexp.Sexp.{Sexp}
use Rattle.pddl_lex.specs.declared.sexp.Sexp.TheViews.{out-Sexp}
use Rattle.pddl_types.specs.declared.terms.Term.{Term}
use Rattle.pddl_types.specs.declared.terms.Atom.{Atom}
use Rattle.pddl_form.specs.Fault.{Fault}
use Rattle.pddl_form.specs.Trees.{Named, Headed, word_at, head_at, first_at}
use Rattle.pddl_form.specs.Names.{place_of}
use Rattle.pddl_form.specs.Things.{Table}
use Rattle.pddl_form.specs.Reserved.{is_reserved, unreserved, count_at}
use Rattle.pddl_form.specs.Terms.{Scope, object_by, term_by, term_at, terms_at, head_index, arity_fits, atom_at, delete_at}
use Rattle.pddl_form.proofs.Laws.{bind_ok, needed_ok}
use Rattle.pddl_form.proofs.HeadedLemmas.{word_back, head_back, free_back}
use Rattle.pddl_form.proofs.RangeLemmas.{arity_back}
use Rattle.pddl_form.specs.Spells.{IsWord}
use Rattle.pddl_laws.specs.Terms.{SpellsList, SpellsTerm, term_param, term_object, SpellsTerms, SpellsAtom, HasOne}

pub same : (n : ℕ) → (n == n) ≡ true
same n = grind (arith, nat_tests)

-- lists

pub list_read : (tree : Sexp) (h : Headed) → SpellsList tree h → head_at tree ≡ Ok h
list_read tree h s = rw (s.whole, s.named) refl

pub list_back : (tree : Sexp) (h : Headed) → head_at tree ≡ Ok h → SpellsList tree h
list_back tree h e = let k = head_back tree h e in record { head = k.head; whole = k.whole; named = k.named }

-- terms

term_read : {scope : Scope} {tree : Sexp} {t : Term} → SpellsTerm scope tree t → term_at scope tree ≡ Ok t
term_read (term_param w i h p e) = rw (h, p, e) refl
term_read (term_object w i h p o e) = rw (h, p, o, e) refl

pub terms_read : (scope : Scope) (done : List Term) (xs : List Sexp) (ts : List Term) → SpellsTerms scope xs ts → terms_at scope done xs ≡ Ok (done ++ ts)
terms_read scope done [] [] h = rw (append-nil done) refl
terms_read scope done [] (t ∷ ts) h = absurd h
terms_read scope done (x ∷ xs) [] h = absurd h
terms_read scope done (x ∷ xs) (t ∷ ts) h = rw (term_read h.0) (terms_read scope (done ++ t ∷ []) xs ts h.1 ∙ ap (λ (l : List Term). Ok l) (append_assoc done (t ∷ []) ts))

pub one_term : {scope : Scope} {tree : Sexp} {t : Term} → SpellsTerm scope tree t → term_at scope tree ≡ Ok t
one_term s = term_read s

object_back : (scope : Scope) (tree : Sexp) (w : Named) (t : Term) (r : Option ℕ) → IsWord tree w → place_of w.1 scope.params ≡ None → place_of w.1 scope.objects ≡ r → object_by w r ≡ Ok t → SpellsTerm scope tree t
object_back scope tree w t None h p o e = cc
object_back scope tree w t (Some i) h p o e = term_object w i h p o cc

param_back : (scope : Scope) (tree : Sexp) (w : Named) (t : Term) (r : Option ℕ) → IsWord tree w → place_of w.1 scope.params ≡ r → term_by scope w r ≡ Ok t → SpellsTerm scope tree t
param_back scope tree w t (Some i) h p e = term_param w i h p cc
param_back scope tree w t None h p e = object_back scope tree w t (place_of w.1 scope.objects) h p refl e

pub term_back : (scope : Scope) (tree : Sexp) (t : Term) → term_at scope tree ≡ Ok t → SpellsTerm scope tree t
term_back scope tree t e =
    let w = bind_ok (word_at tree) (λ w. term_by scope w (place_of w.1 scope.params)) t e in
    param_back scope tree w.0 t (place_of w.0.1 scope.params) (word_back (out-Sexp tree) w.0 w.1) refl w.2

-- the terms behind those before them
pub record AreMore (scope : Scope) (done : List Term) (xs : List Sexp) (all : List Term) : Type 0 where
  pub terms : List Term
  pub spelled : SpellsTerms scope xs terms
  pub whole : all ≡ done ++ terms

pub terms_back : (scope : Scope) (done : List Term) (xs : List Sexp) (all : List Term) → terms_at scope done xs ≡ Ok all → AreMore scope done xs all
terms_back scope done [] all e = let is : done ≡ all = cc in record { terms = []; spelled = tt; whole = sym (append-nil done ∙ is) }
terms_back scope done (x ∷ xs) all e =
    let t = bind_ok (term_at scope x) (λ t. terms_at scope (done ++ t ∷ []) xs) all e in
    let r = terms_back scope (done ++ t.0 ∷ []) xs all t.2 in
    record { terms = t.0 ∷ r.terms; spelled = (term_back scope x t.0 t.1, r.spelled); whole = r.whole ∙ append_assoc done (t.0 ∷ []) r.terms }

-- atoms

pub atom_read : (scope : Scope) (table : Table) (h : Headed) (a : Atom) → SpellsAtom scope table h a → atom_at scope table h ≡ Ok a
unfolding atom_at
atom_read scope table h a s = rw (s.free, s.known, s.fits, same (length h.items), terms_read scope [] h.items a.args s.terms) refl

pub atom_back : (scope : Scope) (table : Table) (h : Headed) (a : Atom) → atom_at scope table h ≡ Ok a → SpellsAtom scope table h a
unfolding atom_at
atom_back scope table h a e =
    let free = bind_ok (unreserved h) _ a e in
    let head = bind_ok (head_index h table) _ a free.2 in
    let fits = bind_ok (arity_fits h (slice_get table.numbers head.0)) _ a head.2 in
    let args = bind_ok (terms_at scope [] h.items) _ a fits.2 in
    let is : record { head = head.0; args = args.0 } ≡ a = cc in
    let r = terms_back scope [] h.items args.0 args.1 in
    subst (SpellsAtom scope table h) is (record {
      free = free_back (is_reserved h.head.1) (h.place, cause.Unsupported h.head.1) free.0 free.1;
      known = needed_ok (h.head.0, cause.Unknown h.head.1) (place_of h.head.1 table.names) head.0 head.1;
      fits = arity_back h (slice_get table.numbers head.0) fits.0 fits.1;
      terms = subst (SpellsTerms scope h.items) (sym r.whole) r.spelled;
    })

-- a word of PDDL's own is no declared head
pub not_free : (word key : List ℕ) → is_reserved key ≡ true → is_reserved word ≡ false → bytes_eq word key ≡ false
not_free word key k e = by_test (bytes_eq word key) refl
  where
    by_test : (t : Bool) → bytes_eq word key ≡ t → t ≡ false
    by_test true q = let is : word ≡ key = (bytes_eq-Decides word key).0 q in let r : is_reserved word ≡ true = ap is_reserved is ∙ k in cc
    by_test false q = refl

pub reserved_not : is_reserved (codes "not") ≡ true
unfolding is_reserved
reserved_not = refl

pub reserved_same : is_reserved (codes "=") ≡ true
unfolding is_reserved
reserved_same = refl

pub reserved_increase : is_reserved (codes "increase") ≡ true
unfolding is_reserved
reserved_increase = refl

pub word_same : (word key : List ℕ) → bytes_eq word key ≡ true → word ≡ key
word_same word key q = (bytes_eq-Decides word key).0 q

-- how many items stand behind a head

pub count_back : (h : Headed) (n : ℕ) (u : Unit {0}) → count_at h n ≡ Ok u → length h.items ≡ n
count_back h n u e = by_test (length h.items == n) (h.place, cause.Arity h.head.1) refl e
  where
    by_test : (t : Bool) (f : Fault) → (length h.items == n) ≡ t → cond t (Ok tt) (Err f) ≡ Ok u → length h.items ≡ n
    by_test true f q k = grind (arith, nat_tests)
    by_test false f q k = cc

pub first_back : (place : ℕ) (items : List Sexp) (r : Sexp × List Sexp) → first_at place items ≡ Ok r → items ≡ r.0 ∷ r.1
first_back place [] r e = cc
first_back place (x ∷ xs) r e = let is : (x, xs) ≡ r = cc in ap (λ (p : Sexp × List Sexp). p.0 ∷ p.1) is

pub no_more : (xs : List Sexp) → length xs ≡ 0 → xs ≡ []
no_more [] e = refl
no_more (x ∷ xs) e = absurd (omega (arith, e))

pub one_item : (items : List Sexp) (x : Sexp) (xs : List Sexp) → length items ≡ 1 → items ≡ x ∷ xs → items ≡ x ∷ []
one_item items x xs l e =
    let n : length xs ≡ 0 = omega (arith, l, ap (λ (l : List Sexp). length l) e) in
    e ∙ ap (λ (l : List Sexp). x ∷ l) (no_more xs n)

-- `not`

pub not_read : (scope : Scope) (table : Table) (h inner : Headed) (a : Atom) → HasOne h inner → SpellsAtom scope table inner a → delete_at scope table h ≡ Ok a
unfolding delete_at
not_read scope table h inner a o s = rw (o.only, list_read o.tree inner o.list, atom_read scope table inner a s) refl

pub record IsNot (scope : Scope) (table : Table) (h : Headed) (a : Atom) : Type 0 where
  pub inner : Headed
  pub one : HasOne h inner
  pub atom : SpellsAtom scope table inner a

pub not_back : (scope : Scope) (table : Table) (h : Headed) (a : Atom) → delete_at scope table h ≡ Ok a → IsNot scope table h a
unfolding delete_at
not_back scope table h a e =
    let c = bind_ok (count_at h 1) _ a e in
    let f = bind_ok (first_at h.place h.items) _ a c.2 in
    let i = bind_ok (head_at f.0.0) _ a f.2 in
    record {
      inner = i.0;
      one = record { tree = f.0.0; only = one_item h.items f.0.0 f.0.1 (count_back h 1 c.0 c.1) (first_back h.place h.items f.0 f.1); list = list_back f.0.0 i.0 i.1 };
      atom = atom_back scope table i.0 a i.2;
    }

pub two_items : (items : List Sexp) (x y : Sexp) (xs ys : List Sexp) → length items ≡ 2 → items ≡ x ∷ xs → xs ≡ y ∷ ys → items ≡ x ∷ y ∷ []
two_items items x y xs ys l e f =
    let n : length xs ≡ 1 = omega (arith, l, ap (λ (l : List Sexp). length l) e) in
    e ∙ ap (λ (l : List Sexp). x ∷ l) (one_item xs y ys n f)
