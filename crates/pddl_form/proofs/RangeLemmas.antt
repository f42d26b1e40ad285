-- What is read of terms, atoms and conditions speaks of what is declared.
use Rattle.std.proofs.Common.{◌≡◌, ℕ, suc, zero, ◌+◌, ◌<◌, ◌==◌, Bool, true, false, cond, nat_lt, List, [], ◌∷◌, ◌++◌, Option, Some, None, Ok, Err, length, refl, ap, subst, ◌∙◌, arith}
use Rattle.std.specs.Prelude.{slice_get}
use Rattle.std.specs.List.{AllByRecursion, position_or_len}
use Rattle.std.specs.Str.{bytes_eq}
use Rattle.std.proofs.lemmas.Bool.Decides.{nat_tests}
use Rattle.bd_base.specs.declared.text_err.Cause.TheVariants as cause
use Rattle.pddl_lex.specs.declared.sexp.Sexp.{Sexp}
use Rattle.pddl_types.specs.declared.terms.Term.{Term}
use Rattle.pddl_types.specs.declared.terms.Term.TheVariants as terms
use Rattle.pddl_types.specs.declared.terms.Atom.{Atom}
use Rattle.pddl_types.specs.declared.domains.Head.{Head}
use Rattle.pddl_types.specs.Readable.{IsTerm, HasArity, IsAtom}
use Rattle.pddl_form.specs.Fault.{Fault}
use Rattle.pddl_form.specs.Trees.{Named, Headed, word_at, head_at, first_at}
use Rattle.pddl_form.specs.Names.{place_of}
use Rattle.pddl_form.specs.Things.{Table}
use Rattle.pddl_form.specs.Reserved.{unreserved, count_at}
use Rattle.pddl_form.specs.Terms.{Scope, object_by, term_by, term_at, terms_at, head_index, arity_fits, atom_at, delete_at}
use Rattle.pddl_form.specs.Things.{heads_of}
use Rattle.pddl_form.proofs.Laws.{bind_ok, all_more, length_more}

some_test : (t : Bool) (n i : ℕ) → cond t (Some n) None ≡ Some i → (t ≡ true) × (n ≡ i)
some_test true n i e = (refl, cc)
some_test false n i e = cc

below : (m n i : ℕ) → nat_lt m n ≡ true → m ≡ i → i < n
below m n i t e = let l : m < n = grind (arith, nat_tests) in omega (arith, l, e)

pub place_below : (name : List ℕ) (names : List (List ℕ)) (i : ℕ) → place_of name names ≡ Some i → i < length names
place_below name names i e =
    let m : ℕ = position_or_len (λ n. bytes_eq name n) names in
    let t = some_test (nat_lt m (length names)) m i e in
    below m (length names) i t.0 t.1

object_back : (w : Named) (r : Option ℕ) (t : Term) → object_by w r ≡ Ok t → (i : ℕ) × (r ≡ Some i) × (terms.Object i ≡ t)
object_back w None t e = cc
object_back w (Some i) t e = (i, refl, cc)

-- a term of the scope
abbrev pub InScope : Scope → Term → Type 0
InScope scope t = IsTerm (length scope.params) (length scope.objects) t

term_back : (scope : Scope) (w : Named) (r : Option ℕ) (t : Term) → place_of w.1 scope.params ≡ r → term_by scope w r ≡ Ok t → InScope scope t
term_back scope w (Some i) t p e = let is : terms.Param i ≡ t = cc in subst (InScope scope) is (place_below w.1 scope.params i p)
term_back scope w None t p e = let o = object_back w (place_of w.1 scope.objects) t e in subst (InScope scope) o.2 (place_below w.1 scope.objects o.0 o.1)

pub term_in : (scope : Scope) (tree : Sexp) (t : Term) → term_at scope tree ≡ Ok t → InScope scope t
term_in scope tree t e =
    let b = bind_ok (word_at tree) (λ w. term_by scope w (place_of w.1 scope.params)) t e in
    term_back scope b.0 (place_of b.0.1 scope.params) t refl b.2

terms_in : (scope : Scope) (done : List Term) (xs : List Sexp) (ts : List Term) → terms_at scope done xs ≡ Ok ts → AllByRecursion (InScope scope) done → AllByRecursion (InScope scope) ts × (length ts ≡ length done + length xs)
terms_in scope done [] ts e h =
    let is : done ≡ ts = cc in
    (subst (AllByRecursion (InScope scope)) is h, omega (arith, ap (λ (l : List Term). length l) is))
terms_in scope done (x ∷ xs) ts e h =
    let b = bind_ok (term_at scope x) (λ t. terms_at scope (done ++ t ∷ []) xs) ts e in
    let r = terms_in scope (done ++ b.0 ∷ []) xs ts b.2 (all_more (InScope scope) done b.0 h (term_in scope x b.0 b.1)) in
    (r.0, omega (arith, r.1, length_more done b.0))

pub arity_back : (h : Headed) (r : Option ℕ) (u : Unit {0}) → arity_fits h r ≡ Ok u → r ≡ Some (length h.items)
arity_back h None u e = cc
arity_back h (Some n) u e = by_test (h.place, cause.Arity h.head.1) (n == length h.items) refl e
  where
    by_test : (f : Fault) (t : Bool) → (n == length h.items) ≡ t → cond t (Ok tt) (Err f) ≡ Ok u → Some n ≡ Some (length h.items)
    by_test f true q k = let is : n ≡ length h.items = grind (arith, nat_tests) in ap (λ (m : ℕ). Some m) is
    by_test f false q k = cc

-- as many numbers as names
abbrev pub IsTable : Table → Type 0
IsTable table = length table.names ≡ length table.numbers

abbrev pub rows_of : Table → List Head
rows_of table = heads_of table.names table.numbers

arity_of : (names : List (List ℕ)) (numbers : List ℕ) (i n : ℕ) → length names ≡ length numbers → slice_get numbers i ≡ Some n → HasArity (slice_get (heads_of names numbers) i) n
arity_of [] [] i n s e = cc
arity_of [] (k ∷ ks) i n s e = absurd (omega (arith, s))
arity_of (w ∷ ws) [] i n s e = cc
arity_of (w ∷ ws) (k ∷ ks) zero n s e = let is : k ≡ n = cc in is
arity_of (w ∷ ws) (k ∷ ks) (suc i) n s e = arity_of ws ks i n (omega (arith, s)) e

-- an atom over heads of the table and terms of the scope
abbrev pub AtomIn : Scope → Table → Atom → Type 0
AtomIn scope table a = IsAtom (rows_of table) (length scope.params) (length scope.objects) a

pub atom_in : (scope : Scope) (table : Table) (h : Headed) (a : Atom) → IsTable table → atom_at scope table h ≡ Ok a → AtomIn scope table a
unfolding atom_at
atom_in scope table h a same e =
    let free = bind_ok (unreserved h) _ a e in
    let head = bind_ok (head_index h table) _ a free.2 in
    let fits = bind_ok (arity_fits h (slice_get table.numbers head.0)) _ a head.2 in
    let args = bind_ok (terms_at scope [] h.items) _ a fits.2 in
    let is : record { head = head.0; args = args.0 } ≡ a = cc in
    let t = terms_in scope [] h.items args.0 args.1 tt in
    let count : length h.items ≡ length args.0 = omega (arith, t.1) in
    let n : slice_get table.numbers head.0 ≡ Some (length args.0) = arity_back h (slice_get table.numbers head.0) fits.0 fits.1 ∙ ap (λ (k : ℕ). Some k) count in
    subst (AtomIn scope table) is (record { head = arity_of table.names table.numbers head.0 (length args.0) same n; args = t.0 })

pub delete_in : (scope : Scope) (predicates : Table) (h : Headed) (a : Atom) → IsTable predicates → delete_at scope predicates h ≡ Ok a → AtomIn scope predicates a
unfolding delete_at
delete_in scope predicates h a same e =
    let c = bind_ok (count_at h 1) _ a e in
    let f = bind_ok (first_at h.place h.items) _ a c.2 in
    let i = bind_ok (head_at f.0.0) _ a f.2 in
    atom_in scope predicates i.0 a same i.2
