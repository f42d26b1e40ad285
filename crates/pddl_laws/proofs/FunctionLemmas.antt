-- Functions that are spelled are read, and those that are read are spelled.
use Rattle.std.proofs.Common.{◌≡◌, ℕ, ◌==◌, Bool, true, false, cond, List, [], ◌∷◌, ◌++◌, Ok, Err, refl, sym, ap, subst, ◌∙◌, arith, append_assoc}
use Rattle.std.specs.Prelude.{codes, Result}
use Rattle.std.proofs.lemmas.List.{append-nil}
use Rattle.std.proofs.lemmas.Bool.Decides.{nat_tests}
use Rattle.std.specs.Str.{bytes_eq}
use Rattle.bd_base.specs.declared.text_err.Cause.TheVariants as cause
use Rattle.pddl_lex.specs.declared.sexp.Sexp.{Sexp}
use Rattle.pddl_lex.specs.declared.sexp.Sexp.TheOpen.{Sexp-F}
use Rattle.pddl_lex.specs.declared.sexp.Sexp.TheViews.{out-Sexp}
use Rattle.pddl_form.specs.Fault.{Fault, ◌>>=◌}
use Rattle.pddl_form.specs.Trees.{Named, Headed, place_at, word_at, is_word, must}
use Rattle.pddl_form.specs.Names.{is_declared}
use Rattle.pddl_form.specs.Groups.{is_either}
use Rattle.pddl_form.specs.Things.{Table, no_rows}
use Rattle.pddl_form.specs.Reserved.{unsupported}
use Rattle.pddl_form.specs.Spells.{IsWord, AreNew}
use Rattle.pddl_form.proofs.Laws.{bind_ok}
use Rattle.pddl_form.proofs.HeadedLemmas.{word_back, must_back}
use Rattle.pddl_domain.specs.Spells.{IsHead}
use Rattle.pddl_domain.specs.Heads.{declaration_at, with_arity, fits_total, function_in, number_type_at, functions_from}
use Rattle.pddl_domain.proofs.HeadLemmas.{declaration_read, declaration_back, headed_of}
use Rattle.pddl_laws.specs.Functions.{SpellsHeads, heads_none, heads_type, heads_more, SpellsFunctions}
use Rattle.pddl_laws.proofs.TermLemmas.{word_same}
use Rattle.pddl_laws.proofs.ParamLemmas.{dash_back}

abbrev fine : Result (Unit {0}) Fault
fine = Ok tt

abbrev fits_when : Bool → Headed → Result (Unit {0}) Fault
fits_when t h = cond t fine (Err (h.place, cause.Arity h.head.1))

fits_read : (h : Headed) (name : List ℕ) (arity : ℕ) → h.head.1 ≡ name → (name ≡ codes "total-cost" → arity ≡ 0) → fits_total h arity ≡ Ok tt
fits_read h name arity n z = by_test (bytes_eq h.head.1 (codes "total-cost")) refl
  where
    by_test : (t : Bool) → bytes_eq h.head.1 (codes "total-cost") ≡ t → cond t (fits_when (arity == 0) h) fine ≡ fine
    by_test true q = let none = z (sym n ∙ word_same h.head.1 (codes "total-cost") q) in rw none refl
    by_test false q = refl

-- a tree declares one name
one_name : (x : Sexp) (name other : List ℕ) (arity count : ℕ) → IsHead x name arity → IsHead x other count → other ≡ name
one_name x name other arity count g h =
    let whole : Sexp-F.List g.place (g.head ∷ g.items) ≡ Sexp-F.List h.place (h.head ∷ h.items) = sym g.whole ∙ h.whole in
    let head : g.head ≡ h.head = cc in
    let word : Sexp-F.Word g.head_place name ≡ Sexp-F.Word h.head_place other = sym g.named ∙ ap (λ (t : Sexp). out-Sexp t) head ∙ h.named in
    cc

head_named : (names : List (List ℕ)) (x : Sexp) (name : List ℕ) (arity : ℕ) (h : IsHead x name arity) → is_declared name names ≡ false → (headed_of x name arity h).head.1 ≡ name
head_named names x name arity h n =
    let k = declaration_back names x ((headed_of x name arity h, arity), names ++ name ∷ []) (declaration_read names x name arity h n) in
    one_name x name (headed_of x name arity h).head.1 arity arity h k.spelled

function_read : (done : Table) (x : Sexp) (name : List ℕ) (arity : ℕ) → IsHead x name arity → (name ≡ codes "total-cost" → arity ≡ 0) → is_declared name done.names ≡ false
    → function_in x done ≡ Ok (record { names = done.names ++ name ∷ []; numbers = done.numbers ++ arity ∷ [] })
function_read done x name arity h z n = rw (declaration_read done.names x name arity h n, fits_read (headed_of x name arity h) name arity (head_named done.names x name arity h n) z) refl

number_read : (tree : Sexp) (place : ℕ) → IsWord tree (place, codes "number") → number_type_at tree ≡ Ok tt
number_read tree place h = rw h refl

no_dash : (x : Sexp) (name : List ℕ) (arity : ℕ) → IsHead x name arity → is_word (codes "-") x ≡ false
no_dash x name arity h = rw h.whole refl

is_dash : (x : Sexp) (place : ℕ) → IsWord x (place, codes "-") → is_word (codes "-") x ≡ true
is_dash x place h = rw h refl

functions_read : (place : ℕ) (done : Table) {fresh : Bool} {items : List Sexp} {names : List (List ℕ)} {arities : List ℕ} → SpellsHeads fresh items names arities → AreNew done.names names
    → functions_from place false fresh done items ≡ Ok (record { names = done.names ++ names; numbers = done.numbers ++ arities })
functions_read place done (heads_none i n a) new = rw (i, n, a, append-nil done.names, append-nil done.numbers) refl
functions_read place done (heads_type dash type rest at p f d t more i) new = rw (i, is_dash dash at d, f, number_read type p t) (functions_read place done more new)
functions_read place done (heads_more x xs name arity ns ks h z more i n a) new =
    let k : AreNew done.names (name ∷ ns) = subst (AreNew done.names) n new in
    let next : Table = record { names = done.names ++ name ∷ []; numbers = done.numbers ++ arity ∷ [] } in
    let read = functions_read place next more k.1 in
    rw (i, n, a, no_dash x name arity h, function_read done x name arity h z k.0) (read ∙ rw (append_assoc done.names (name ∷ []) ns, append_assoc done.numbers (arity ∷ []) ks) refl)

-- from what is read

number_back : (tree : Sexp) (u : Unit {0}) → number_type_at tree ≡ Ok u → (place : ℕ) × IsWord tree (place, codes "number")
number_back tree u e = by_either (is_either tree) e
  where
    by_word : (w : Named) → IsWord tree w → (t : Bool) → bytes_eq w.1 (codes "number") ≡ t → cond t (Ok tt) (unsupported w.0 w.1) ≡ Ok u → (place : ℕ) × IsWord tree (place, codes "number")
    by_word w h true q k = (w.0, subst (λ (text : List ℕ). IsWord tree (w.0, text)) (word_same w.1 (codes "number") q) h)
    by_word w h false q k = cc

    by_either : (t : Bool) → cond t (unsupported (place_at tree) (codes "either")) (word_at tree >>= λ w. cond (bytes_eq w.1 (codes "number")) (Ok tt) (unsupported w.0 w.1)) ≡ Ok u → (place : ℕ) × IsWord tree (place, codes "number")
    by_either true k = cc
    by_either false k =
        let w = bind_ok (word_at tree) (λ w. cond (bytes_eq w.1 (codes "number")) (Ok tt) (unsupported w.0 w.1)) u k in
        by_word w.0 (word_back (out-Sexp tree) w.0 w.1) (bytes_eq w.0.1 (codes "number")) refl w.2

fits_back : (h : Headed) (arity : ℕ) (u : Unit {0}) → fits_total h arity ≡ Ok u → h.head.1 ≡ codes "total-cost" → arity ≡ 0
fits_back h arity u e n = by_test (arity == 0) refl (rw_head e)
  where
    rw_head : fits_total h arity ≡ Ok u → fits_when (arity == 0) h ≡ Ok u
    rw_head q = subst (λ (text : List ℕ). cond (bytes_eq text (codes "total-cost")) (fits_when (arity == 0) h) fine ≡ Ok u) n q

    by_test : (t : Bool) → (arity == 0) ≡ t → fits_when t h ≡ Ok u → arity ≡ 0
    by_test true q k = grind (arith, nat_tests)
    by_test false q k = cc

-- the rows behind those of the table
record AreRows (fresh : Bool) (done : Table) (items : List Sexp) (all : Table) : Type 0 where
  names : List (List ℕ)
  arities : List ℕ
  heads : SpellsHeads fresh items names arities
  new : AreNew done.names names
  whole : all ≡ record { names = done.names ++ names; numbers = done.numbers ++ arities }

abbrev behind : Table → List (List ℕ) → List ℕ → Table
behind t ns ks = record { names = t.names ++ ns; numbers = t.numbers ++ ks }

one_behind : (done more : Table) (name : List ℕ) (arity : ℕ) (ns : List (List ℕ)) (ks : List ℕ) → more.names ≡ done.names ++ name ∷ [] → more.numbers ≡ done.numbers ++ arity ∷ []
    → behind more ns ks ≡ behind done (name ∷ ns) (arity ∷ ks)
one_behind done more name arity ns ks n a = rw (n, a, append_assoc done.names (name ∷ []) ns, append_assoc done.numbers (arity ∷ []) ks) refl

one_more : (fresh : Bool) (done more all : Table) (x : Sexp) (xs : List Sexp) → function_in x done ≡ Ok more → AreRows true more xs all → AreRows fresh done (x ∷ xs) all
one_more fresh done more all x xs e r =
    let d = bind_ok (declaration_at done.names x) (λ d. fits_total d.0.0 d.0.1 >>= λ fit. Ok (with_arity d done)) more e in
    let f = bind_ok (fits_total d.0.0.0 d.0.0.1) (λ fit. Ok (with_arity d.0 done)) more d.2 in
    let is : more ≡ with_arity d.0 done = cc in
    let k = declaration_back done.names x d.0 d.1 in
    let name : List ℕ = d.0.0.0.head.1 in
    let names : more.names ≡ done.names ++ name ∷ [] = ap (λ (t : Table). t.names) is ∙ k.more in
    let numbers : more.numbers ≡ done.numbers ++ d.0.0.1 ∷ [] = ap (λ (t : Table). t.numbers) is in
    record {
      names = name ∷ r.names;
      arities = d.0.0.1 ∷ r.arities;
      heads = heads_more x xs name d.0.0.1 r.names r.arities k.spelled (fits_back d.0.0.0 d.0.0.1 f.0 f.1) r.heads refl refl refl;
      new = (k.new, subst (λ (l : List (List ℕ)). AreNew l r.names) names r.new);
      whole = r.whole ∙ one_behind done more name d.0.0.1 r.names r.arities names numbers;
    }

functions_back : (place : ℕ) (fresh : Bool) (done : Table) (items : List Sexp) (all : Table) → functions_from place false fresh done items ≡ Ok all → AreRows fresh done items all
functions_back place fresh done [] all e =
    let is : all ≡ done = cc in
    record { names = []; arities = []; heads = heads_none refl refl refl; new = tt; whole = is ∙ rw (append-nil done.names, append-nil done.numbers) refl }
functions_back place fresh done (x ∷ []) all e = by_dash (is_word (codes "-") x) e (λ more. functions_back place true more [] all)
  where
    by_dash : (b : Bool) → cond b (must fresh (place_at x) >>= λ u. functions_from place true false done []) (function_in x done >>= λ more. functions_from place false true more []) ≡ Ok all
        → ((more : Table) → functions_from place false true more [] ≡ Ok all → AreRows true more [] all) → AreRows fresh done (x ∷ []) all
    by_dash true k ih = let m = bind_ok (must fresh (place_at x)) (λ u. functions_from place true false done []) all k in let clash = m.2 in cc
    by_dash false k ih =
        let m = bind_ok (function_in x done) (λ more. functions_from place false true more []) all k in
        one_more fresh done m.0 all x [] m.1 (ih m.0 m.2)
functions_back place fresh done (x ∷ y ∷ xs) all e = by_dash (is_word (codes "-") x) refl e (functions_back place false done xs all) (λ more. functions_back place true more (y ∷ xs) all)
  where
    by_dash : (b : Bool) → is_word (codes "-") x ≡ b → cond b (must fresh (place_at x) >>= λ u. functions_from place true false done (y ∷ xs)) (function_in x done >>= λ more. functions_from place false true more (y ∷ xs)) ≡ Ok all
        → (functions_from place false false done xs ≡ Ok all → AreRows false done xs all) → ((more : Table) → functions_from place false true more (y ∷ xs) ≡ Ok all → AreRows true more (y ∷ xs) all) → AreRows fresh done (x ∷ y ∷ xs) all
    by_dash true q k ih ih2 =
        let m = bind_ok (must fresh (place_at x)) (λ u. functions_from place true false done (y ∷ xs)) all k in
        let n = bind_ok (number_type_at y) (λ u. functions_from place false false done xs) all m.2 in
        let d = dash_back x q in
        let t = number_back y n.0 n.1 in
        let r = ih n.2 in
        record { names = r.names; arities = r.arities; heads = heads_type x y xs d.0 t.0 (must_back fresh (place_at x) m.0 m.1) d.1 t.1 r.heads refl; new = r.new; whole = r.whole }
    by_dash false q k ih ih2 =
        let m = bind_ok (function_in x done) (λ more. functions_from place false true more (y ∷ xs)) all k in
        one_more fresh done m.0 all x (y ∷ xs) m.1 (ih2 m.0 m.2)

pub functions_complete : (place : ℕ) (items : List Sexp) (table : Table) → SpellsFunctions items table → functions_from place false false no_rows items ≡ Ok table
functions_complete place items table h = functions_read place no_rows h.heads h.new

pub functions_spelled : (place : ℕ) (items : List Sexp) (table : Table) → functions_from place false false no_rows items ≡ Ok table → SpellsFunctions items table
functions_spelled place items table e =
    let r = functions_back place false no_rows items table e in
    subst (SpellsFunctions items) (sym r.whole) (record { heads = r.heads; new = r.new })
