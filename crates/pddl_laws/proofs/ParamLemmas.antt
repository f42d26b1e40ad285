-- Parameters that are spelled are read, and those that are read are spelled.
use Rattle.std.proofs.Common.{◌≡◌, ℕ, suc, zero, ◌+◌, ◌-◌, ◌<◌, ◌≤◌, ◌==◌, Bool, true, false, cond, List, [], ◌∷◌, ◌++◌, Option, Some, None, Ok, Err, length, take, replicate, refl, sym, ap, subst, ◌∙◌, arith, append_assoc}
use Rattle.std.specs.Prelude.{codes}
use Rattle.std.proofs.lemmas.List.{append-nil}
use Rattle.std.proofs.lemmas.Bool.Decides.{nat_tests}
use Rattle.std.specs.Str.{bytes_eq}
use Rattle.bd_base.specs.declared.text_err.Cause.TheVariants as cause
use Rattle.pddl_lex.specs.declared.sexp.Sexp.{Sexp}
use Rattle.pddl_lex.specs.declared.sexp.Sexp.TheOpen.{Sexp-F}
use Rattle.pddl_lex.specs.declared.sexp.Sexp.TheViews.{out-Sexp}
use Rattle.pddl_form.specs.Fault.{Fault, ◌>>=◌}
use Rattle.pddl_form.specs.Trees.{Named, place_at, word_in, list_at, is_variable, unless_odd, name_at, variable_at, is_in, is_word, is_name, must}
use Rattle.pddl_form.specs.Names.{place_of, is_declared}
use Rattle.pddl_form.specs.Groups.{Group, is_either, type_at, no_names}
use Rattle.pddl_form.specs.Things.{Table, no_rows, kind_at}
use Rattle.pddl_form.specs.Reserved.{declare_at}
use Rattle.pddl_form.specs.Spells.{IsWord, AreEntries, IsTyped, typed_none, typed_last, typed_more, IsKind, AreNew}
use Rattle.pddl_form.proofs.Laws.{bind_ok, declare_back, needed_ok}
use Rattle.pddl_form.proofs.HeadedLemmas.{must_back, list_back}
use Rattle.pddl_form.proofs.TypedLemmas.{name_back}
use Rattle.pddl_domain.specs.Params.{is_fresh, settle, named_too, settled_at, param_at, params_from, params_at}
use Rattle.pddl_laws.specs.Params.{texts, joined, row_group, HaveKinds, kinds_none, kinds_more, SpellsParams, SpellsParamsField}
use Rattle.pddl_laws.proofs.TermLemmas.{word_same}

-- lists

take_all : {X : Type 0} (n : ℕ) (xs : List X) → length xs ≤ n → take n xs ≡ xs
take_all zero [] l = refl
take_all zero (x ∷ xs) l = absurd (omega (arith, l))
take_all (suc n) [] l = refl
take_all (suc n) (x ∷ xs) l = ap (λ (ys : List _). x ∷ ys) (take_all n xs (omega (arith, l)))

length_append : {X : Type 0} (xs ys : List X) → length (xs ++ ys) ≡ length xs + length ys
length_append [] ys = omega arith
length_append (x ∷ xs) ys = let h = length_append xs ys in omega (arith, h)

length_texts : (ws : List Named) → length (texts ws) ≡ length ws
length_texts [] = refl
length_texts (w ∷ ws) = ap (λ (n : ℕ). suc n) (length_texts ws)

length_same : {X : Type 0} (n : ℕ) (x : X) → length (replicate n x) ≡ n
length_same zero x = refl
length_same (suc n) x = ap (λ (m : ℕ). suc m) (length_same n x)

texts_more : (ws : List Named) (w : Named) → texts (ws ++ w ∷ []) ≡ texts ws ++ w.1 ∷ []
texts_more [] w = refl
texts_more (v ∷ ws) w = ap (λ (l : List (List ℕ)). v.1 ∷ l) (texts_more ws w)

pub new_more : (before names : List (List ℕ)) (w : List ℕ) → AreNew before names → is_declared w (before ++ names) ≡ false → AreNew before (names ++ w ∷ [])
new_more before [] w h e = (subst (λ (l : List (List ℕ)). is_declared w l ≡ false) (append-nil before) e, tt)
new_more before (n ∷ names) w h e = (h.0, new_more (before ++ n ∷ []) names w h.1 (subst (λ (l : List (List ℕ)). is_declared w l ≡ false) (sym (append_assoc before (n ∷ []) names)) e))

pub new_both : (before names more : List (List ℕ)) → AreNew before names → AreNew (before ++ names) more → AreNew before (names ++ more)
new_both before [] more h k = subst (λ (l : List (List ℕ)). AreNew l more) (append-nil before) k
new_both before (n ∷ names) more h k = (h.0, new_both (before ++ n ∷ []) names more h.1 (subst (λ (l : List (List ℕ)). AreNew l more) (sym (append_assoc before (n ∷ []) names)) k))

pub new_apart : (before names more : List (List ℕ)) → AreNew before (names ++ more) → AreNew before names × AreNew (before ++ names) more
new_apart before [] more h = (tt, subst (λ (l : List (List ℕ)). AreNew l more) (sym (append-nil before)) h)
new_apart before (n ∷ names) more h =
    let r = new_apart (before ++ n ∷ []) names more h.1 in
    ((h.0, r.0), subst (λ (l : List (List ℕ)). AreNew l more) (append_assoc before (n ∷ []) names) r.1)

-- as many numbers as names
abbrev IsEven : Table → Type 0
IsEven t = length t.names ≡ length t.numbers

-- names behind those of the table, still without a type
abbrev waiting : Table → List Named → Table
waiting t names = record { names = t.names ++ texts names; numbers = t.numbers }

count_left : (t : Table) (ws : List Named) → IsEven t → length (t.names ++ texts ws) - length t.numbers ≡ length ws
count_left t ws e = let a = length_append t.names (texts ws) in let b = length_texts ws in omega (arith, a, b, e)

settled : (k : ℕ) (t : Table) (ws : List Named) → IsEven t → settle k (waiting t ws) ≡ joined t (row_group ws k)
settled k t ws e =
    let a = length_append t.names (texts ws) in
    rw (take_all (length (t.names ++ texts ws)) t.numbers (omega (arith, a, e)), count_left t ws e) refl

even_more : (k : ℕ) (t : Table) (ws : List Named) → IsEven t → IsEven (joined t (row_group ws k))
even_more k t ws e =
    let a = length_append t.names (texts ws) in
    let b = length_texts ws in
    let c = length_append t.numbers (replicate (length ws) k) in
    let d = length_same (length ws) k in
    omega (arith, a, b, c, d, e)

none_more : (t : Table) → joined t no_rows ≡ t
none_more t = rw (append-nil t.names, append-nil t.numbers) refl

all_assoc : (t u v : Table) → joined (joined t u) v ≡ joined t (joined u v)
all_assoc t u v = rw (append_assoc t.names u.names v.names, append_assoc t.numbers u.numbers v.numbers) refl

no_waiting : (t : Table) → waiting t [] ≡ t
no_waiting t = rw (append-nil t.names) refl

waiting_more : (t : Table) (ws : List Named) (w : Named) → record { names = (t.names ++ texts ws) ++ w.1 ∷ []; numbers = t.numbers } ≡ waiting t (ws ++ w ∷ [])
waiting_more t ws w = ap (λ (l : List (List ℕ)). record { names = l; numbers = t.numbers }) (append_assoc t.names (texts ws) (w.1 ∷ []) ∙ ap (λ (l : List (List ℕ)). t.names ++ l) (sym (texts_more ws w)))

-- from what is spelled

question_no_dash : (b : ℕ) → (b == 63) ≡ true → (b == 45) ≡ false
question_no_dash b e = grind (arith, nat_tests)

dash_byte : (b : ℕ) (bs : List ℕ) → (b == 45) ≡ false → bytes_eq (b ∷ bs) (codes "-") ≡ false
dash_byte b bs e = rw e refl

variable_no_dash : (text : List ℕ) → is_variable text ≡ true → bytes_eq text (codes "-") ≡ false
variable_no_dash [] e = cc
variable_no_dash (b ∷ []) e = cc
variable_no_dash (b ∷ c ∷ cs) e = dash_byte b (c ∷ cs) (question_no_dash b e)

word_is : (key : List ℕ) (x : Sexp) (w : Named) → IsWord x w → is_word key x ≡ bytes_eq w.1 key
word_is key x w h = rw h refl

variable_is : (x : Sexp) (w : Named) → IsWord x w → is_variable w.1 ≡ true → variable_at x ≡ Ok w
variable_is x w h e = rw (h, e) refl

pub type_is : (x : Sexp) (w : Named) → IsWord x w → is_name w.1 ≡ true → type_at x ≡ Ok w
type_is x w h e = rw (h, e) refl

entries_read : (types : List (List ℕ)) (place : ℕ) (t : Table) (done : List Named) (front : List Sexp) (names : List Named) (rest : List Sexp) → AreEntries true front names → AreNew (t.names ++ texts done) (texts names)
    → params_from types place false (waiting t done) (front ++ rest) ≡ params_from types place false (waiting t (done ++ names)) rest
entries_read types place t done [] [] rest h n = ap (λ (ws : List Named). params_from types place false (waiting t ws) rest) (sym (append-nil done))
entries_read types place t done [] (w ∷ names) rest h n = absurd h
entries_read types place t done (x ∷ front) [] rest h n = absurd h
entries_read types place t done (x ∷ front) (w ∷ names) rest h n =
    let new : AreNew (t.names ++ texts (done ++ w ∷ [])) (texts names) = subst (λ (l : List (List ℕ)). AreNew l (texts names)) (ap (λ (u : Table). u.names) (waiting_more t done w)) n.1 in
    rw (word_is (codes "-") x w h.0, variable_no_dash w.1 h.1, variable_is x w h.0 h.1, n.0)
    (ap (λ (u : Table). params_from types place false u (front ++ rest)) (waiting_more t done w) ∙ entries_read types place t (done ++ w ∷ []) front names rest h.2 new
    ∙ ap (λ (ws : List Named). params_from types place false (waiting t ws) rest) (append_assoc done (w ∷ []) names))

kind_is : (types : List (List ℕ)) (w : Named) (k : ℕ) → IsKind types (Some w) k → kind_at types (Some w) ≡ Ok k
kind_is types w k h = rw h refl

fresh_is : (t : Table) (ws : List Named) → IsEven t → no_names ws ≡ false → is_fresh (waiting t ws) ≡ true
fresh_is t [] e n = cc
fresh_is t (w ∷ ws) e n =
    let a = length_append t.names (texts (w ∷ ws)) in
    let b = length_texts (w ∷ ws) in
    let l : length t.numbers < length (t.names ++ texts (w ∷ ws)) = omega (arith, a, b, e) in
    grind (arith, nat_tests)

end_read : (types : List (List ℕ)) (place : ℕ) (t : Table) (ws : List Named) → IsEven t → params_from types place false (waiting t ws) [] ≡ Ok (joined t (row_group ws 0))
end_read types place t ws e = ap (λ (u : Table). Ok u) (settled 0 t ws e)

params_read : (types : List (List ℕ)) (place : ℕ) (t : Table) {items : List Sexp} {gs : List Group} {rows : Table} → IsTyped true items gs → HaveKinds types gs rows → AreNew t.names rows.names → IsEven t
    → params_from types place false t items ≡ Ok (joined t rows)
params_read types place t (typed_none i g) (kinds_none k r) n e = rw (i, r) (ap (λ (u : Table). params_from types place false u []) (sym (no_waiting t)) ∙ end_read types place t [] e)
params_read types place t (typed_none i g) (kinds_more h more k rest is others q r) n e = cc
params_read types place t (typed_last names some are g) (kinds_none k r) n e = cc
params_read types place t {items} {gs} {rows} (typed_last names some are g) (kinds_more h more k rest is (kinds_none m s) q r) n e =
    let same : h ≡ record { names = names; kind = None } = cc in
    let zero_kind : k ≡ 0 = subst (λ (x : Group). IsKind types x.kind k) same is in
    let named : h.names ≡ names = ap (λ (x : Group). x.names) same in
    let rows_are : rows ≡ row_group names 0 = r ∙ rw (s, zero_kind, named) (none_more (row_group names 0)) in
    let new : AreNew t.names (texts names) = subst (λ (u : Table). AreNew t.names u.names) rows_are n in
    let all : params_from types place false (waiting t []) (items ++ []) ≡ params_from types place false (waiting t names) [] = entries_read types place t [] items names [] are (subst (λ (l : List (List ℕ)). AreNew l (texts names)) (sym (append-nil t.names)) new) in
    ap (λ (u : Table). params_from types place false u items) (sym (no_waiting t)) ∙ ap (λ (xs : List Sexp). params_from types place false (waiting t []) xs) (sym (append-nil items)) ∙ all ∙ end_read types place t names e
    ∙ ap (λ (u : Table). Ok (joined t u)) (sym rows_are)
params_read types place t (typed_last names some are g) (kinds_more h more k rest is (kinds_more h2 more2 k2 rest2 is2 others2 q2 r2) q r) n e = cc
params_read types place t (typed_more front rest names dash type at kind more some are d w o others i g) (kinds_none k r) n e = cc
params_read types place t {items} {gs} {rows} (typed_more front rest names dash type at kind more some are d w o others i g) (kinds_more h behind k tail is kinds q r) n e =
    let same : h ≡ record { names = names; kind = Some kind } = cc in
    let others_are : behind ≡ more = cc in
    let known : IsKind types (Some kind) k = subst (λ (x : Group). IsKind types x.kind k) same is in
    let rows_are : rows ≡ joined (row_group names k) tail = r ∙ ap (λ (x : Group). joined (row_group x.names k) tail) same in
    let apart = new_apart t.names (texts names) tail.names (subst (λ (u : Table). AreNew t.names u.names) rows_are n) in
    let next : Table = joined t (row_group names k) in
    let last = params_read types place next others (subst (λ (l : List Group). HaveKinds types l tail) others_are kinds) apart.1 (even_more k t names e) in
    let mid : params_from types place false (waiting t names) (dash ∷ type ∷ rest) ≡ Ok (joined next tail) =
    rw (word_is (codes "-") dash (at, codes "-") d, fresh_is t names e some, type_is type kind w o, kind_is types kind k known, settled k t names e) last in
    rw i (ap (λ (u : Table). params_from types place false u (front ++ dash ∷ type ∷ rest)) (sym (no_waiting t))
    ∙ entries_read types place t [] front names (dash ∷ type ∷ rest) are (subst (λ (l : List (List ℕ)). AreNew l (texts names)) (sym (append-nil t.names)) apart.0)
    ∙ mid ∙ ap (λ (u : Table). Ok u) (all_assoc t (row_group names k) tail ∙ ap (λ (u : Table). joined t u) (sym rows_are)))

-- from what is read

odd_back : (t : Bool) (v w : Named) → unless_odd t v ≡ Ok w → (t ≡ true) × (v ≡ w)
odd_back true v w e = (refl, cc)
odd_back false v w e = cc

tested_back : (l : Sexp-F Sexp) (w : Named) → (word_in l >>= λ v. unless_odd (is_variable v.1) v) ≡ Ok w → (l ≡ Sexp-F.Word w.0 w.1) × (is_variable w.1 ≡ true)
tested_back (Sexp-F.Word place text) w e =
    let o = odd_back (is_variable text) (place, text) w e in
    (ap (λ (v : Named). Sexp-F.Word v.0 v.1) o.1, ap (λ (v : Named). is_variable v.1) (sym o.1) ∙ o.0)
tested_back (Sexp-F.List place items) w e = cc

pub type_back : (x : Sexp) (w : Named) → type_at x ≡ Ok w → IsWord x w × (is_name w.1 ≡ true)
type_back x w e = by_test (is_either x) (place_at x, cause.Unsupported (codes "either")) e
  where
    by_test : (t : Bool) (f : Fault) → cond t (Err f) (name_at x) ≡ Ok w → IsWord x w × (is_name w.1 ≡ true)
    by_test true f p = cc
    by_test false f p = name_back x w p

pub dash_back : (x : Sexp) → is_word (codes "-") x ≡ true → (place : ℕ) × IsWord x (place, codes "-")
dash_back x e = by_shape (out-Sexp x) e
  where
    by_shape : (l : Sexp-F Sexp) → is_in (codes "-") l ≡ true → (place : ℕ) × (l ≡ Sexp-F.Word place (codes "-"))
    by_shape (Sexp-F.Word place text) q = (place, ap (λ (t : List ℕ). Sexp-F.Word place t) (word_same text (codes "-") q))
    by_shape (Sexp-F.List place items) q = cc

entries_last : (front : List Sexp) (names : List Named) (x : Sexp) (w : Named) → AreEntries true front names → IsWord x w → is_variable w.1 ≡ true → AreEntries true (front ++ x ∷ []) (names ++ w ∷ [])
entries_last [] [] x w h i e = (i, e, tt)
entries_last [] (n ∷ names) x w h i e = absurd h
entries_last (y ∷ front) [] x w h i e = absurd h
entries_last (y ∷ front) (n ∷ names) x w h i e = (h.0, h.1, entries_last front names x w h.2 i e)

no_entries : (front : List Sexp) → AreEntries true front [] → front ≡ []
no_entries [] h = refl
no_entries (x ∷ front) h = absurd h

-- the rows that the items add to a table
record Adds (types : List (List ℕ)) (t : Table) (items : List Sexp) (all : Table) : Type 0 where
  groups : List Group
  rows : Table
  typed : IsTyped true items groups
  kinds : HaveKinds types groups rows
  new : AreNew t.names rows.names
  whole : all ≡ joined t rows

end_back : (types : List (List ℕ)) (t : Table) (done : List Named) (front : List Sexp) (all : Table) → IsEven t → AreEntries true front done → AreNew t.names (texts done) → all ≡ settle 0 (waiting t done) → Adds types t front all
end_back types t [] front all e are n is = record {
  groups = [];
  rows = no_rows;
  typed = typed_none (no_entries front are) refl;
  kinds = kinds_none refl refl;
  new = tt;
  whole = is ∙ settled 0 t [] e;
}
end_back types t (w ∷ done) front all e are n is = record {
  groups = record { names = w ∷ done; kind = None } ∷ [];
  rows = row_group (w ∷ done) 0;
  typed = typed_last (w ∷ done) refl are refl;
  kinds = kinds_more (record { names = w ∷ done; kind = None }) [] 0 no_rows refl (kinds_none refl refl) refl (sym (none_more (row_group (w ∷ done) 0)));
  new = n;
  whole = is ∙ settled 0 t (w ∷ done) e;
}

some_waiting : (t : Table) (done : List Named) → IsEven t → is_fresh (waiting t done) ≡ true → no_names done ≡ false
some_waiting t [] e f =
    let a = length_append t.names [] in
    let l : length t.numbers < length (t.names ++ []) = grind (arith, nat_tests) in
    absurd (omega (arith, a, l, e))
some_waiting t (w ∷ done) e f = refl

abbrev Names : List (List ℕ) → ℕ → List Sexp → Type 0
Names types place items = (t : Table) (done : List Named) (front : List Sexp) (all : Table) → IsEven t → AreEntries true front done → AreNew t.names (texts done) → params_from types place false (waiting t done) items ≡ Ok all → Adds types t (front ++ items) all

abbrev Kinds : List (List ℕ) → ℕ → List Sexp → Type 0
Kinds types place items = (t : Table) (done : List Named) (front : List Sexp) (dash : Sexp) (at : ℕ) (all : Table) → IsEven t → no_names done ≡ false → AreEntries true front done → AreNew t.names (texts done) → IsWord dash (at, codes "-")
    → params_from types place true (waiting t done) items ≡ Ok all → Adds types t (front ++ dash ∷ items) all

name_step : (types : List (List ℕ)) (place : ℕ) (x : Sexp) (xs : List Sexp) → Names types place xs → (t : Table) (done : List Named) (front : List Sexp) (all : Table) → IsEven t → AreEntries true front done → AreNew t.names (texts done)
    → (more : Table) → param_at x (waiting t done) ≡ Ok more → params_from types place false more xs ≡ Ok all → Adds types t (front ++ x ∷ xs) all
name_step types place x xs ih t done front all e are n more p q =
    let w = bind_ok (variable_at x) (λ w. named_too w (waiting t done)) more p in
    let m = bind_ok (declare_at w.0 (t.names ++ texts done)) (λ names. Ok (record { names = names; numbers = t.numbers })) more w.2 in
    let d = declare_back (is_declared w.0.1 (t.names ++ texts done)) (w.0.0, cause.Clash w.0.1) ((t.names ++ texts done) ++ w.0.1 ∷ []) m.0 m.1 in
    let v = tested_back (out-Sexp x) w.0 w.1 in
    let is : more ≡ record { names = m.0; numbers = t.numbers } = cc in
    let next : more ≡ waiting t (done ++ w.0 ∷ []) = is ∙ ap (λ (l : List (List ℕ)). record { names = l; numbers = t.numbers }) d.1 ∙ waiting_more t done w.0 in
    let new : AreNew t.names (texts (done ++ w.0 ∷ [])) = subst (AreNew t.names) (sym (texts_more done w.0)) (new_more t.names (texts done) w.0.1 n d.0) in
    let read : params_from types place false (waiting t (done ++ w.0 ∷ [])) xs ≡ Ok all = subst (λ (u : Table). params_from types place false u xs ≡ Ok all) next q in
    subst (λ (items : List Sexp). Adds types t items all) (append_assoc front (x ∷ []) xs) (ih t (done ++ w.0 ∷ []) (front ++ x ∷ []) all e (entries_last front done x w.0 are v.0 v.1) new read)

names_step : (types : List (List ℕ)) (place : ℕ) (x : Sexp) (xs : List Sexp) → Names types place xs → Kinds types place xs → Names types place (x ∷ xs)
names_step types place x xs ih ih2 t done front all e are n q = by_dash (is_word (codes "-") x) refl q
  where
    by_dash : (b : Bool) → is_word (codes "-") x ≡ b → cond b (must (is_fresh (waiting t done)) (place_at x) >>= λ u. params_from types place true (waiting t done) xs) (param_at x (waiting t done) >>= λ more. params_from types place false more xs) ≡ Ok all → Adds types t (front ++ x ∷ xs) all
    by_dash true p k =
        let m = bind_ok (must (is_fresh (waiting t done)) (place_at x)) (λ u. params_from types place true (waiting t done) xs) all k in
        let d = dash_back x p in
        ih2 t done front x d.0 all e (some_waiting t done e (must_back (is_fresh (waiting t done)) (place_at x) m.0 m.1)) are n d.1 m.2
    by_dash false p k =
        let m = bind_ok (param_at x (waiting t done)) (λ more. params_from types place false more xs) all k in
        name_step types place x xs ih t done front all e are n m.0 m.1 m.2

kinds_step : (types : List (List ℕ)) (place : ℕ) (x : Sexp) (xs : List Sexp) → Names types place xs → Kinds types place (x ∷ xs)
kinds_step types place x xs ih t done front dash at all e some are n d q =
    let s = bind_ok (settled_at types x (waiting t done)) (λ more. params_from types place false more xs) all q in
    let w = bind_ok (type_at x) (λ w. kind_at types (Some w) >>= λ kind. Ok (settle kind (waiting t done))) s.0 s.1 in
    let k = bind_ok (kind_at types (Some w.0)) (λ kind. Ok (settle kind (waiting t done))) s.0 w.2 in
    let known = needed_ok (w.0.0, cause.Unknown w.0.1) (place_of w.0.1 types) k.0 k.1 in
    let is : s.0 ≡ settle k.0 (waiting t done) = cc in
    let next : s.0 ≡ joined t (row_group done k.0) = is ∙ settled k.0 t done e in
    let named = type_back x w.0 w.1 in
    let read : params_from types place false (waiting (joined t (row_group done k.0)) []) xs ≡ Ok all = subst (λ (u : Table). params_from types place false u xs ≡ Ok all) (next ∙ sym (no_waiting (joined t (row_group done k.0)))) s.2 in
    let r = ih (joined t (row_group done k.0)) [] [] all (even_more k.0 t done e) tt tt read in
    record {
      groups = record { names = done; kind = Some w.0 } ∷ r.groups;
      rows = joined (row_group done k.0) r.rows;
      typed = typed_more front xs done dash x at w.0 r.groups some are d named.0 named.1 r.typed refl refl;
      kinds = kinds_more (record { names = done; kind = Some w.0 }) r.groups k.0 r.rows known r.kinds refl refl;
      new = new_both t.names (texts done) r.rows.names n r.new;
      whole = r.whole ∙ all_assoc t (row_group done k.0) r.rows;
    }

mutual
  names_back : (types : List (List ℕ)) (place : ℕ) (items : List Sexp) → Names types place items
  names_back types place [] t done front all e are n q = subst (λ (items : List Sexp). Adds types t items all) (sym (append-nil front)) (end_back types t done front all e are n cc)
  names_back types place (x ∷ xs) t done front all e are n q = names_step types place x xs (names_back types place xs) (kinds_back types place xs) t done front all e are n q

  kinds_back : (types : List (List ℕ)) (place : ℕ) (items : List Sexp) → Kinds types place items
  kinds_back types place [] t done front dash at all e some are n d q = cc
  kinds_back types place (x ∷ xs) t done front dash at all e some are n d q = kinds_step types place x xs (names_back types place xs) t done front dash at all e some are n d q

pub params_field_read : (types : List (List ℕ)) (field : Option Sexp) (params : Table) → SpellsParamsField types field params → params_at types field ≡ Ok params
params_field_read types None params h = ap (λ (u : Table). Ok u) (sym h)
params_field_read types (Some tree) params h = rw h.2 (params_read types h.0 no_rows h.3.typed h.3.kinds h.3.new refl)

pub params_field_spelled : (types : List (List ℕ)) (field : Option Sexp) (params : Table) → params_at types field ≡ Ok params → SpellsParamsField types field params
params_field_spelled types None params e = cc
params_field_spelled types (Some tree) params e =
    let l = bind_ok (list_at tree) (λ l. params_from types l.0 false no_rows l.1) params e in
    let r = names_back types l.0.0 l.0.1 no_rows [] [] params refl tt tt l.2 in
    (l.0.0, l.0.1, list_back (out-Sexp tree) l.0 l.1, subst (SpellsParams types l.0.1) (sym r.whole) (record { groups = r.groups; typed = r.typed; kinds = r.kinds; new = r.new }))
