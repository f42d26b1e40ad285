-- Names that were read are words, and names that are declared once differ.
use Rattle.std.proofs.Common.{◌≡◌, ℕ, ◌&&◌, ◌||◌, Bool, true, false, List, [], ◌∷◌, ◌++◌, Option, Some, None, refl, sym, ap, subst, ◌∙◌, append_assoc}
use Rattle.std.specs.List.{AllByRecursion, list_any}
use Rattle.std.specs.Str.{bytes_eq}
use Rattle.std.proofs.lemmas.Slice.Eq.{bytes_eq-Decides}
use Rattle.pddl_lex.specs.declared.sexp.Sexp.{Sexp}
use Rattle.pddl_types.specs.Readable.{IsName, AreNames}
use Rattle.pddl_form.specs.Names.{is_declared}
use Rattle.pddl_form.specs.Trees.{Named, is_name}
use Rattle.pddl_form.specs.Groups.{Group}
use Rattle.pddl_form.specs.Things.{Table, with_row}
use Rattle.pddl_form.specs.Spells.{AreEntries, IsTyped, typed_none, typed_last, typed_more, AreNew, PutsNames, puts_none, puts_again, puts_new, PutsGroups, groups_none, groups_more}
use Rattle.pddl_form.proofs.Laws.{all_more}
use Rattle.pddl_form.proofs.NameLemmas.{absent}
use Rattle.pddl_form.proofs.TableLemmas.{new_more}

both_left : (a b : Bool) → (a && b) ≡ true → a ≡ true
both_left true b e = refl
both_left false b e = cc

pub name_seen : (w : List ℕ) → is_name w ≡ true → IsName w
name_seen [] e = cc
name_seen (b ∷ bs) e = both_left _ _ (both_left _ _ (both_left _ _ e))

abbrev pub AreSeen : List (List ℕ) → Type 0
AreSeen names = AllByRecursion IsName names

abbrev pub AreAllSeen : List Named → Type 0
AreAllSeen ws = AllByRecursion (λ w. IsName w.1) ws

-- the names, and the type's name where one is written
pub record IsSeen (g : Group) : Type 0 where
  pub names : AreAllSeen g.names
  pub kind : (w : Named) → g.kind ≡ Some w → IsName w.1

abbrev pub AreGroupsSeen : List Group → Type 0
AreGroupsSeen gs = AllByRecursion IsSeen gs

entries_seen : (xs : List Sexp) (ws : List Named) → AreEntries false xs ws → AreAllSeen ws
entries_seen [] [] h = tt
entries_seen [] (w ∷ ws) h = absurd h
entries_seen (x ∷ xs) [] h = tt
entries_seen (x ∷ xs) (w ∷ ws) h = (name_seen w.1 h.1, entries_seen xs ws h.2)

same_kind : (v w : Named) → Some v ≡ Some w → IsName v.1 → IsName w.1
same_kind v w e h = let is : v ≡ w = cc in subst (λ (u : Named). IsName u.1) is h

pub typed_seen : {v : Bool} {items : List Sexp} {gs : List Group} → IsTyped v items gs → v ≡ false → AreGroupsSeen gs
typed_seen (typed_none i g) v = subst AreGroupsSeen (sym g) tt
typed_seen {v} {items} (typed_last names some are g) e =
    let h : AreEntries false items names = subst (λ (t : Bool). AreEntries t items names) e are in
    subst AreGroupsSeen (sym g) (record { names = entries_seen items names h; kind = λ w k. cc }, tt)
typed_seen {v} (typed_more front rest names dash type place kind more some are d t n others i g) e =
    let h : AreEntries false front names = subst (λ (t : Bool). AreEntries t front names) e are in
    subst AreGroupsSeen (sym g) (record { names = entries_seen front names h; kind = λ w k. same_kind kind w k (name_seen kind.1 n) }, typed_seen others e)

-- words, each once
pub record AreOnce (names : List (List ℕ)) : Type 0 where
  pub new : AreNew [] names
  pub seen : AreSeen names

pub none_once : AreOnce []
none_once = record { new = tt; seen = tt }

pub once_more : (names : List (List ℕ)) (w : List ℕ) → AreOnce names → is_declared w names ≡ false → IsName w → AreOnce (names ++ w ∷ [])
once_more names w h n s = record { new = new_more [] names w h.new n; seen = all_more IsName names w h.seen s }

names_put_once : {k : ℕ} {table : Table} {names : List Named} {all : Table} → PutsNames k table names all → AreAllSeen names → AreOnce table.names → AreOnce all.names
names_put_once (puts_none n a) s h = subst (λ (t : Table). AreOnce t.names) (sym a) h
names_put_once (puts_again w ws i p g more n) s h = let t : AreAllSeen (w ∷ ws) = subst AreAllSeen n s in names_put_once more t.1 h
names_put_once {k} {table} (puts_new w ws p more n) s h =
    let t : AreAllSeen (w ∷ ws) = subst AreAllSeen n s in
    names_put_once more t.1 (once_more table.names w.1 h (absent w.1 table.names p) t.0)

pub groups_put_once : {types : List (List ℕ)} {table : Table} {gs : List Group} {all : Table} → PutsGroups types table gs all → AreGroupsSeen gs → AreOnce table.names → AreOnce all.names
groups_put_once (groups_none g a) s h = subst (λ (t : Table). AreOnce t.names) (sym a) h
groups_put_once (groups_more g more k next is puts others e) s h = let t : AreGroupsSeen (g ∷ more) = subst AreGroupsSeen e s in groups_put_once others t.1 (names_put_once puts t.0.names h)

-- names that are new one after the other differ from all behind them

other_way : (m n : List ℕ) → bytes_eq m n ≡ false → bytes_eq n m ≡ false
other_way m n e = by_test (bytes_eq n m) refl
  where
    by_test : (t : Bool) → bytes_eq n m ≡ t → t ≡ false
    by_test true q = let same : m ≡ n = sym ((bytes_eq-Decides n m).0 q) in let both : bytes_eq m n ≡ true = (bytes_eq-Decides m n).1 same in cc
    by_test false q = refl

none_either : (a b : Bool) → (a || b) ≡ false → (a ≡ false) × (b ≡ false)
none_either true b e = cc
none_either false b e = (refl, e)

among : (m n : List ℕ) (front back : List (List ℕ)) → list_any (λ x. bytes_eq m x) (front ++ n ∷ back) ≡ false → bytes_eq m n ≡ false
among m n [] back e = (none_either (bytes_eq m n) _ e).0
among m n (x ∷ front) back e = among m n front back (none_either (bytes_eq m x) _ e).1

not_later : (n : List ℕ) (front back names : List (List ℕ)) → AreNew (front ++ n ∷ back) names → list_any (λ m. bytes_eq n m) names ≡ false
not_later n front back [] h = refl
not_later n front back (m ∷ names) h =
    let apart : bytes_eq n m ≡ false = other_way m n (among m n front back h.0) in
    let rest : AreNew (front ++ n ∷ (back ++ m ∷ [])) names = subst (λ (l : List (List ℕ)). AreNew l names) (append_assoc front (n ∷ back) (m ∷ [])) h.1 in
    rw (apart, not_later n front (back ++ m ∷ []) names rest) refl

pub names_apart : (before names : List (List ℕ)) → AreNew before names → AreSeen names → AreNames names
names_apart before [] h s = tt
names_apart before (n ∷ names) h s = (s.0, not_later n before [] names h.1, names_apart (before ++ n ∷ []) names h.1 s.1)

pub once_apart : (names : List (List ℕ)) → AreOnce names → AreNames names
once_apart names h = names_apart [] names h.new h.seen

-- and the other way round

-- none of the names is the one or among those
abbrev Avoid : List (List ℕ) → List (List ℕ) → Type 0
Avoid names before = AllByRecursion (λ b. list_any (λ m. bytes_eq b m) names ≡ false) before

avoid_first : (n : List ℕ) (names before : List (List ℕ)) → Avoid (n ∷ names) before → is_declared n before ≡ false
avoid_first n names [] h = refl
avoid_first n names (b ∷ before) h = rw (other_way b n (none_either (bytes_eq b n) _ h.0).0, avoid_first n names before h.1) refl

avoid_rest : (n : List ℕ) (names before : List (List ℕ)) → Avoid (n ∷ names) before → Avoid names before
avoid_rest n names [] h = tt
avoid_rest n names (b ∷ before) h = ((none_either (bytes_eq b n) _ h.0).1, avoid_rest n names before h.1)

new_by : (before names : List (List ℕ)) → Avoid names before → AreNames names → AreNew before names
new_by before [] h k = tt
new_by before (n ∷ names) h k =
    (avoid_first n names before h, new_by (before ++ n ∷ []) names (all_more (λ b. list_any (λ m. bytes_eq b m) names ≡ false) before n (avoid_rest n names before h) k.1) k.2)

seen_by : (names : List (List ℕ)) → AreNames names → AreSeen names
seen_by [] k = tt
seen_by (n ∷ names) k = (k.0, seen_by names k.2)

pub apart_once : (names : List (List ℕ)) → AreNames names → AreOnce names
apart_once names k = record { new = new_by [] names tt k; seen = seen_by names k }
