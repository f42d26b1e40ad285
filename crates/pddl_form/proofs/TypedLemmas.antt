-- Typed lists that are spelled are read, and those that are read are spelled.
use Rattle.std.proofs.Common.{◌≡◌, ℕ, ◌==◌, Bool, true, false, cond, not, ◌&&◌, List, [], ◌∷◌, ◌++◌, Some, None, Result, Ok, Err, map, codes, refl, sym, ap, subst, ◌∙◌, arith, append_assoc}
use Rattle.std.proofs.lemmas.Bool.Decides.{nat_tests}
use Rattle.std.proofs.lemmas.List.{append-nil}
use Rattle.std.proofs.lemmas.Slice.Eq.{bytes_eq-Decides}
use Rattle.std.specs.Str.{bytes_eq}
use Rattle.std.specs.List.{list_all}
use Rattle.bd_base.specs.declared.text_err.Cause.TheVariants as cause
use Rattle.pddl_lex.specs.declared.sexp.Sexp.{Sexp}
use Rattle.pddl_lex.specs.declared.sexp.Sexp.TheOpen.{Sexp-F}
use Rattle.pddl_lex.specs.declared.sexp.Sexp.TheViews.{out-Sexp}
use Rattle.pddl_form.specs.Fault.{Fault, ◌>>=◌}
use Rattle.pddl_form.specs.Trees.{Named, place_at, word_in, is_seen, is_name, is_variable, unless_odd, name_at, variable_at, is_in, is_word}
use Rattle.pddl_form.specs.Groups.{Group, Grouped, group, wrong, is_either, type_at, entry_at, no_names, last_group, on_word, groups_from, groups}
use Rattle.pddl_form.specs.Spells.{IsWord, is_entry, AreEntries, IsTyped, typed_none, typed_last, typed_more}

-- from what is spelled to the groups

dash_byte : (b : ℕ) (bs : List ℕ) → (b == 45) ≡ false → bytes_eq (b ∷ bs) (codes "-") ≡ false
dash_byte b bs e = rw e refl

not_true : (t : Bool) → not t ≡ true → t ≡ false
not_true true e = cc
not_true false e = refl

pub both_right : (a b : Bool) → (a && b) ≡ true → b ≡ true
both_right true b e = e
both_right false b e = cc

name_no_dash : (text : List ℕ) → is_name text ≡ true → bytes_eq text (codes "-") ≡ false
name_no_dash [] e = cc
name_no_dash (b ∷ bs) e = not_true (bytes_eq (b ∷ bs) (codes "-")) (both_right (list_all is_seen (b ∷ bs) && not (b == 63) && not (b == 58)) (not (bytes_eq (b ∷ bs) (codes "-"))) e)

question_no_dash : (b : ℕ) → (b == 63) ≡ true → (b == 45) ≡ false
question_no_dash b e = grind (arith, nat_tests)

variable_no_dash : (text : List ℕ) → is_variable text ≡ true → bytes_eq text (codes "-") ≡ false
variable_no_dash [] e = cc
variable_no_dash (b ∷ []) e = cc
variable_no_dash (b ∷ c ∷ cs) e = dash_byte b (c ∷ cs) (question_no_dash b e)

entry_no_dash : (v : Bool) (text : List ℕ) → is_entry v text ≡ true → bytes_eq text (codes "-") ≡ false
entry_no_dash true text e = variable_no_dash text e
entry_no_dash false text e = name_no_dash text e

name_is : (x : Sexp) (w : Named) → IsWord x w → is_name w.1 ≡ true → name_at x ≡ Ok w
name_is x w h e = rw (h, e) refl

variable_is : (x : Sexp) (w : Named) → IsWord x w → is_variable w.1 ≡ true → variable_at x ≡ Ok w
variable_is x w h e = rw (h, e) refl

entry_is : (v : Bool) (x : Sexp) (w : Named) → IsWord x w → is_entry v w.1 ≡ true → entry_at v x ≡ Ok w
entry_is true x w h e = variable_is x w h e
entry_is false x w h e = name_is x w h e

word_is : (key : List ℕ) (x : Sexp) (w : Named) → IsWord x w → is_word key x ≡ bytes_eq w.1 key
word_is key x w h = rw h refl

type_is : (x : Sexp) (w : Named) → IsWord x w → is_name w.1 ≡ true → type_at x ≡ Ok w
type_is x w h e = rw (h, e) refl

entries_read : (v : Bool) (place : ℕ) (done : List Named) (front : List Sexp) (names : List Named) (rest : List Sexp) → AreEntries v front names → groups_from v place false done (front ++ rest) ≡ groups_from v place false (done ++ names) rest
entries_read v place done [] [] rest h = ap (λ (ws : List Named). groups_from v place false ws rest) (sym (append-nil done))
entries_read v place done [] (w ∷ names) rest h = absurd h
entries_read v place done (x ∷ front) [] rest h = absurd h
entries_read v place done (x ∷ front) (w ∷ names) rest h =
    rw (word_is (codes "-") x w h.0, entry_no_dash v w.1 h.1, entry_is v x w h.0 h.1)
    (entries_read v place (done ++ w ∷ []) front names rest h.2 ∙ ap (λ (ws : List Named). groups_from v place false ws rest) (append_assoc done (w ∷ []) names))

last_is : (names : List Named) → no_names names ≡ false → last_group names ≡ group (record { names = names; kind = None }) ∷ []
last_is [] e = cc
last_is (w ∷ names) e = refl

pub typed_read : (place : ℕ) {v : Bool} {items : List Sexp} {gs : List Group} → IsTyped v items gs → groups_from v place false [] items ≡ map group gs
typed_read place (typed_none i g) = rw (i, g) refl
typed_read place {v} {items} (typed_last names some are g) =
    let all : groups_from v place false [] items ≡ groups_from v place false names [] = ap (groups_from v place false []) (sym (append-nil items)) ∙ entries_read v place [] items names [] are in
    all ∙ rw g (last_is names some)
typed_read place {v} (typed_more front rest names dash type at kind more some are d t n others i g) =
    rw (i, g) (entries_read v place [] front names (dash ∷ type ∷ rest) are
    ∙ rw (word_is (codes "-") dash (at, codes "-") d, some, type_is type kind t n) (ap (λ (list : List Grouped). group (record { names = names; kind = Some kind }) ∷ list) (typed_read place others)))

-- from the groups to what is spelled

odd_back : (t : Bool) (v w : Named) → unless_odd t v ≡ Ok w → (t ≡ true) × (v ≡ w)
odd_back true v w e = (refl, cc)
odd_back false v w e = cc

-- what a test of a tree's word says of the tree
abbrev Tested : (List ℕ → Bool) → Sexp-F Sexp → Named → Type 0
Tested test l w = (word_in l >>= λ v. unless_odd (test v.1) v) ≡ Ok w → (l ≡ Sexp-F.Word w.0 w.1) × (test w.1 ≡ true)

tested_back : (test : List ℕ → Bool) (l : Sexp-F Sexp) (w : Named) → Tested test l w
tested_back test (Sexp-F.Word place text) w e =
    let o = odd_back (test text) (place, text) w e in
    (ap (λ (v : Named). Sexp-F.Word v.0 v.1) o.1, ap (λ (v : Named). test v.1) (sym o.1) ∙ o.0)
tested_back test (Sexp-F.List place items) w e = cc

pub name_back : (x : Sexp) (w : Named) → name_at x ≡ Ok w → IsWord x w × (is_name w.1 ≡ true)
name_back x w e = tested_back is_name (out-Sexp x) w e

entry_back : (v : Bool) (x : Sexp) (w : Named) → entry_at v x ≡ Ok w → IsWord x w × (is_entry v w.1 ≡ true)
entry_back true x w e = tested_back is_variable (out-Sexp x) w e
entry_back false x w e = tested_back is_name (out-Sexp x) w e

type_back : (x : Sexp) (w : Named) → type_at x ≡ Ok w → IsWord x w × (is_name w.1 ≡ true)
type_back x w e = by_test (is_either x) (place_at x, cause.Unsupported (codes "either")) e
  where
    by_test : (t : Bool) (f : Fault) → cond t (Err f) (name_at x) ≡ Ok w → IsWord x w × (is_name w.1 ≡ true)
    by_test true f p = cc
    by_test false f p = name_back x w p

in_back : (key : List ℕ) (l : Sexp-F Sexp) → is_in key l ≡ true → (place : ℕ) × (l ≡ Sexp-F.Word place key)
in_back key (Sexp-F.Word place text) e = (place, ap (λ (t : List ℕ). Sexp-F.Word place t) ((bytes_eq-Decides text key).0 e))
in_back key (Sexp-F.List place items) e = cc

entries_last : (v : Bool) (front : List Sexp) (names : List Named) (x : Sexp) (w : Named) → AreEntries v front names → IsWord x w → is_entry v w.1 ≡ true → AreEntries v (front ++ x ∷ []) (names ++ w ∷ [])
entries_last v [] [] x w h i e = (i, e, tt)
entries_last v [] (n ∷ names) x w h i e = absurd h
entries_last v (y ∷ front) [] x w h i e = absurd h
entries_last v (y ∷ front) (n ∷ names) x w h i e = (h.0, h.1, entries_last v front names x w h.2 i e)

no_entries : (v : Bool) (front : List Sexp) → AreEntries v front [] → front ≡ []
no_entries v [] h = refl
no_entries v (x ∷ front) h = absurd h

pub not_wrong : {A : Type 0} (f : Fault) (list : List Grouped) (gs : List Group) → wrong f ∷ list ≡ map group gs → A
not_wrong f list [] e = cc
not_wrong f list (g ∷ gs) e = cc

cons2 : (g h : Group) (gs hs : List Group) → g ≡ h → gs ≡ hs → g ∷ gs ≡ h ∷ hs
cons2 g h gs hs e f = cc

pub group_back : (g : Group) (list : List Grouped) (gs : List Group) → group g ∷ list ≡ map group gs → (more : List Group) × (gs ≡ g ∷ more) × (list ≡ map group more)
group_back g list [] e = cc
group_back g list (h ∷ more) e = let i : h ≡ g = cc in (more, cons2 h g more more i refl, cc)

pub none_back : (gs : List Group) → [] ≡ map group gs → gs ≡ []
none_back [] e = refl
none_back (g ∷ gs) e = cc

end_back : (v : Bool) (front : List Sexp) (done : List Named) (gs : List Group) → AreEntries v front done → last_group done ≡ map group gs → IsTyped v front gs
end_back v front [] gs are e = typed_none (no_entries v front are) (none_back gs e)
end_back v front (w ∷ done) gs are e =
    let b = group_back (record { names = w ∷ done; kind = None }) [] gs e in
    typed_last (w ∷ done) refl are (b.1 ∙ ap (λ (more : List Group). record { names = w ∷ done; kind = None } ∷ more) (none_back b.0 b.2))

-- what the items behind the names say, and behind the `-` after them
abbrev Names : Bool → ℕ → List Sexp → Type 0
Names v place items = (done : List Named) (front : List Sexp) (gs : List Group) → AreEntries v front done → groups_from v place false done items ≡ map group gs → IsTyped v (front ++ items) gs

abbrev Kinds : Bool → ℕ → List Sexp → Type 0
Kinds v place items = (done : List Named) (front : List Sexp) (dash : Sexp) (at : ℕ) (gs : List Group) → no_names done ≡ false → AreEntries v front done → IsWord dash (at, codes "-") → groups_from v place true done items ≡ map group gs → IsTyped v (front ++ dash ∷ items) gs

names_step : (v : Bool) (place : ℕ) (x : Sexp) (xs : List Sexp) → Names v place xs → Kinds v place xs → Names v place (x ∷ xs)
names_step v place x xs ih ih2 done front gs are e = by_dash (is_word (codes "-") x) refl e
  where
    by_names : (t : Bool) → no_names done ≡ t → is_word (codes "-") x ≡ true → cond t (wrong (place_at x, cause.Shape) ∷ []) (groups_from v place true done xs) ≡ map group gs → IsTyped v (front ++ x ∷ xs) gs
    by_names true p d h = not_wrong _ [] gs h
    by_names false p d h = let w = in_back (codes "-") (out-Sexp x) d in ih2 done front x w.0 gs p are w.1 h

    by_entry : (r : Result Named Fault) → entry_at v x ≡ r → on_word r (λ w. groups_from v place false (done ++ w ∷ []) xs) ≡ map group gs → IsTyped v (front ++ x ∷ xs) gs
    by_entry (Err f) p h = not_wrong f [] gs h
    by_entry (Ok w) p h =
        let b = entry_back v x w p in
        subst (λ (items : List Sexp). IsTyped v items gs) (append_assoc front (x ∷ []) xs) (ih (done ++ w ∷ []) (front ++ x ∷ []) gs (entries_last v front done x w are b.0 b.1) h)

    by_dash : (t : Bool) → is_word (codes "-") x ≡ t → cond t (cond (no_names done) (wrong (place_at x, cause.Shape) ∷ []) (groups_from v place true done xs)) (on_word (entry_at v x) (λ w. groups_from v place false (done ++ w ∷ []) xs)) ≡ map group gs → IsTyped v (front ++ x ∷ xs) gs
    by_dash true p h = by_names (no_names done) refl p h
    by_dash false p h = by_entry (entry_at v x) refl h

kinds_step : (v : Bool) (place : ℕ) (x : Sexp) (xs : List Sexp) → Names v place xs → Kinds v place (x ∷ xs)
kinds_step v place x xs ih done front dash at gs some are d e = by_type (type_at x) refl e
  where
    by_type : (r : Result Named Fault) → type_at x ≡ r → on_word r (λ kind. group (record { names = done; kind = Some kind }) ∷ groups_from v place false [] xs) ≡ map group gs → IsTyped v (front ++ dash ∷ x ∷ xs) gs
    by_type (Err f) p h = not_wrong f [] gs h
    by_type (Ok kind) p h =
        let b = group_back (record { names = done; kind = Some kind }) (groups_from v place false [] xs) gs h in
        let k = type_back x kind p in
        typed_more front xs done dash x at kind b.0 some are d k.0 k.1 (ih [] [] b.0 tt b.2) refl b.1

mutual
  names_back : (v : Bool) (place : ℕ) (items : List Sexp) → Names v place items
  names_back v place [] done front gs are e = subst (λ (items : List Sexp). IsTyped v items gs) (sym (append-nil front)) (end_back v front done gs are e)
  names_back v place (x ∷ xs) done front gs are e = names_step v place x xs (names_back v place xs) (kinds_back v place xs) done front gs are e

  kinds_back : (v : Bool) (place : ℕ) (items : List Sexp) → Kinds v place items
  kinds_back v place [] done front dash at gs some are d e = not_wrong (place, cause.Shape) [] gs e
  kinds_back v place (x ∷ xs) done front dash at gs some are d e = kinds_step v place x xs (names_back v place xs) done front dash at gs some are d e

pub typed_back : (v : Bool) (place : ℕ) (items : List Sexp) (gs : List Group) → groups v place items ≡ map group gs → IsTyped v items gs
typed_back v place items gs e = names_back v place items [] [] gs tt e
