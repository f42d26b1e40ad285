-- Atoms are found by their keys.
use Rattle.std.proofs.Common.{◌≡◌, ℕ, zero, suc, ◌+◌, ◌<◌, ◌≤◌, ◌==◌, Bool, true, false, cond, not, ◌||◌, ltb, List, [], ◌∷◌, ◌++◌, length, take, map, Option, Some, None, slice_get, get_or, set, refl, sym, ap, ◌∙◌, subst, inl, inr, arith, Vec, Global, Bor}
use Rattle.std.proofs.lemmas.Bool.{and_parts, or_cases, or_left, or_right, both_ways, eqb-true, lt-ltb, cases_lt}
use Rattle.std.proofs.lemmas.List.{append-nil, length-append, length-map, map-append, map-set, get_or-map, take_more}
use Rattle.pddl_types.specs.declared.terms.Term.{Term}
use Rattle.pddl_types.specs.declared.terms.Term.TheVariants as terms
use Rattle.pddl_types.specs.declared.terms.Atom.{Atom}
use Rattle.bd_ground.specs.Atoms.{same_atom, is_among, with_atom, number_of}
use Rattle.bd_ground.specs.Offers.{could_stand, could_match}
use Rattle.bd_ground.specs.Index.{rows_by, Finds, FindsAll, settled, Covers}
use Rattle.bd_ground.proofs.MemberLemmas.{some_is, none_some}
use Rattle.bd_ground.proofs.AtomLemmas.{same-refl, same_is, is_among-append}
use Rattle.bd_ground.proofs.TableLemmas.{some_number}

abbrev Rows : Type 0
Rows = List (List (List ℕ))

-- what rows of lent atoms are seen as
abbrev pub seen_row : Vec (Bor (List ℕ)) Global → List (List ℕ)
seen_row r = map (λ g. g.now) r.items

abbrev pub seen : List (Vec (Bor (List ℕ)) Global) → Rows
seen rows = map (λ r. seen_row r) rows

abbrev no_rows : List (List ℕ)
no_rows = []

-- a key's row is the one at its number
pub rows_by-is : (keys : List (List ℕ)) (rows : Rows) (key : List ℕ) → rows_by keys rows key ≡ cond (is_among key keys) (get_or rows (number_of keys key) []) []
rows_by-is [] rows key = refl
rows_by-is (k ∷ keys) [] key = nothing (is_among key (k ∷ keys)) (number_of (k ∷ keys) key)
  where
    nothing : (b : Bool) (n : ℕ) → no_rows ≡ cond b (get_or [] n no_rows) no_rows
    nothing true n = refl
    nothing false n = refl
rows_by-is (k ∷ keys) (r ∷ rows) key = by_test (same_atom key k) (rows_by-is keys rows key)
  where
    by_test : (b : Bool) → rows_by keys rows key ≡ cond (is_among key keys) (get_or rows (number_of keys key) []) [] →
        cond b r (rows_by keys rows key) ≡ cond (b || is_among key keys) (get_or (r ∷ rows) (cond b 0 (1 + number_of keys key)) []) []
    by_test true more = refl
    by_test false more = more ∙ ap (λ n. cond (is_among key keys) (get_or (r ∷ rows) n []) []) (let e : suc (number_of keys key) ≡ 1 + number_of keys key = omega arith in e)

pub rows_none : (keys : List (List ℕ)) (rows : Rows) (key : List ℕ) → None ≡ cond (is_among key keys) (Some (number_of keys key)) None → [] ≡ rows_by keys rows key
rows_none keys rows key e = by_test (is_among key keys) e ∙ sym (rows_by-is keys rows key)
  where
    by_test : (b : Bool) → None ≡ cond b (Some (number_of keys key)) None → no_rows ≡ cond b (get_or rows (number_of keys key) []) []
    by_test true f = absurd (none_some _ f)
    by_test false f = refl

pub rows_some : (keys : List (List ℕ)) (rows : Rows) (key : List ℕ) (n : ℕ) → Some n ≡ cond (is_among key keys) (Some (number_of keys key)) None → get_or rows n [] ≡ rows_by keys rows key
rows_some keys rows key n e = by_test (is_among key keys) e ∙ sym (rows_by-is keys rows key)
  where
    by_test : (b : Bool) → Some n ≡ cond b (Some (number_of keys key)) None → get_or rows n [] ≡ cond b (get_or rows (number_of keys key) []) []
    by_test true f = ap (λ z. get_or rows z []) (some_is n _ f)
    by_test false f = absurd (none_some _ (sym f))

among_from : (keys : List (List ℕ)) (key : List ℕ) (n : ℕ) → Some n ≡ cond (is_among key keys) (Some (number_of keys key)) None → is_among key keys ≡ true
among_from keys key n e = by_test (is_among key keys) e
  where
    by_test : (b : Bool) → Some n ≡ cond b (Some (number_of keys key)) None → b ≡ true
    by_test true f = refl
    by_test false f = absurd (none_some _ (sym f))

none_among : (keys : List (List ℕ)) (key : List ℕ) → None ≡ cond (is_among key keys) (Some (number_of keys key)) None → is_among key keys ≡ false
none_among keys key e = by_test (is_among key keys) e
  where
    by_test : (b : Bool) → None ≡ cond b (Some (number_of keys key)) None → b ≡ false
    by_test true f = absurd (none_some _ f)
    by_test false f = refl

number_below : (keys : List (List ℕ)) (key : List ℕ) → is_among key keys ≡ true → number_of keys key < length keys
number_below [] key e = absurd (both_ways false refl e)
number_below (k ∷ keys) key e = by_test (same_atom key k) e (number_below keys key)
  where
    by_test : (b : Bool) → (b || is_among key keys) ≡ true → (is_among key keys ≡ true → number_of keys key < length keys) → cond b 0 (1 + number_of keys key) < suc (length keys)
    by_test true f more = omega arith
    by_test false f more = let m = more f in omega arith

-- the number of a key that is there is one of a row
pub number_fits : {X : Type 0} (keys : List (List ℕ)) (rows : List X) (key : List ℕ) (n : ℕ) → length rows ≡ length keys → Some n ≡ cond (is_among key keys) (Some (number_of keys key)) None → n < length rows
number_fits keys rows key n even e = let b = number_below keys key (among_from keys key n e) in let s = some_number key keys n e in omega (arith, b, s, even)

add-none : (b : Bool) (xs x : List (List ℕ)) → b ≡ false → xs ≡ xs ++ cond b x []
add-none b xs x e = sym (ap (λ z. xs ++ cond z x []) e ∙ append-nil xs)

-- an atom more at a key's row
put_old : (keys : List (List ℕ)) (rows : Rows) (key : List ℕ) (x : List (List ℕ)) (h : List ℕ) → length rows ≡ length keys → is_among key keys ≡ true →
    rows_by keys (set rows (number_of keys key) (get_or rows (number_of keys key) [] ++ x)) h ≡ rows_by keys rows h ++ cond (same_atom h key) x []
put_old [] rows key x h even at = absurd (both_ways false refl at)
put_old (k ∷ keys) [] key x h even at = absurd (omega (arith, even))
put_old (k ∷ keys) (r ∷ rows) key x h even at = by_test (same_atom key k) refl at (λ e. put_old keys rows key x h (let m : length rows ≡ length keys = omega (arith, even) in m) e)
  where
    here : (b c : Bool) → b ≡ c → cond b (r ++ x) (rows_by keys rows h) ≡ cond b r (rows_by keys rows h) ++ cond c x []
    here true true e = refl
    here true false e = absurd (both_ways true e refl)
    here false true e = absurd (both_ways false refl e)
    here false false e = sym (append-nil (rows_by keys rows h))

    later : (b c : Bool) → (b ≡ true → c ≡ false) → (new : List (List ℕ)) → new ≡ rows_by keys rows h ++ cond c x [] → cond b r new ≡ cond b r (rows_by keys rows h) ++ cond c x []
    later true c apart new e = add-none c r x (apart refl)
    later false c apart new e = e

    other : same_atom key k ≡ false → same_atom h k ≡ true → same_atom h key ≡ false
    other f g = by_value (same_atom h key) refl
      where
        by_value : (c : Bool) → same_atom h key ≡ c → c ≡ false
        by_value true e = absurd (both_ways (same_atom key k) f (subst (λ z. same_atom z k ≡ true) (same_is h key e) g))
        by_value false e = refl

    by_test : (b : Bool) → same_atom key k ≡ b → (b || is_among key keys) ≡ true →
        (is_among key keys ≡ true → rows_by keys (set rows (number_of keys key) (get_or rows (number_of keys key) [] ++ x)) h ≡ rows_by keys rows h ++ cond (same_atom h key) x []) →
        rows_by (k ∷ keys) (set (r ∷ rows) (cond b 0 (1 + number_of keys key)) (get_or (r ∷ rows) (cond b 0 (1 + number_of keys key)) [] ++ x)) h ≡ cond (same_atom h k) r (rows_by keys rows h) ++ cond (same_atom h key) x []
    by_test true s i more = here (same_atom h k) (same_atom h key) (ap (λ z. same_atom h z) (sym (same_is key k s)))
    by_test false s i more =
        ap (λ n. rows_by (k ∷ keys) (set (r ∷ rows) n (get_or (r ∷ rows) n [] ++ x)) h) (let e : 1 + number_of keys key ≡ suc (number_of keys key) = omega arith in e)
        ∙ later (same_atom h k) (same_atom h key) (other s) _ (more i)

pub put_there : (keys : List (List ℕ)) (rows new : Rows) (key g : List ℕ) (n : ℕ) → length rows ≡ length keys → Some n ≡ cond (is_among key keys) (Some (number_of keys key)) None → new ≡ set rows n (get_or rows n [] ++ g ∷ []) →
    (h : List ℕ) → rows_by keys new h ≡ rows_by keys rows h ++ cond (same_atom h key) (g ∷ []) []
put_there keys rows new key g n even e f h =
    ap (λ z. rows_by keys z h) (f ∙ ap (λ z. set rows z (get_or rows z [] ++ g ∷ [])) (some_number key keys n e))
    ∙ put_old keys rows key (g ∷ []) h even (among_from keys key n e)

-- a new key's row is last
rows_last : (keys : List (List ℕ)) (rows : Rows) (key : List ℕ) (x : List (List ℕ)) (h : List ℕ) → length rows ≡ length keys → is_among key keys ≡ false →
    rows_by (keys ++ key ∷ []) (rows ++ x ∷ []) h ≡ rows_by keys rows h ++ cond (same_atom h key) x []
rows_last [] [] key x h even out = by_test (same_atom h key)
  where
    by_test : (b : Bool) → cond b x [] ≡ no_rows ++ cond b x []
    by_test true = refl
    by_test false = refl
rows_last [] (r ∷ rows) key x h even out = absurd (omega (arith, even))
rows_last (k ∷ keys) [] key x h even out = absurd (omega (arith, even))
rows_last (k ∷ keys) (r ∷ rows) key x h even out = by_tests (same_atom h k) (same_atom h key) refl refl (rows_last keys rows key x h (let m : length rows ≡ length keys = omega (arith, even) in m) (later (same_atom key k) (is_among key keys) out))
  where
    later : (a b : Bool) → (a || b) ≡ false → b ≡ false
    later true b e = absurd (both_ways true e refl)
    later false b e = e

    first : (a b : Bool) → (a || b) ≡ false → a ≡ false
    first true b e = absurd (both_ways true e refl)
    first false b e = refl

    by_tests : (b c : Bool) → same_atom h k ≡ b → same_atom h key ≡ c → rows_by (keys ++ key ∷ []) (rows ++ x ∷ []) h ≡ rows_by keys rows h ++ cond c x [] →
        cond b r (rows_by (keys ++ key ∷ []) (rows ++ x ∷ []) h) ≡ cond b r (rows_by keys rows h) ++ cond c x []
    by_tests true true s t more =
        absurd (both_ways (same_atom key k) (first (same_atom key k) (is_among key keys) out) (subst (λ z. same_atom z k ≡ true) (same_is h key t) s))
    by_tests true false s t more = sym (append-nil r)
    by_tests false c s t more = more

pub put_new : (keys after : List (List ℕ)) (rows new : Rows) (key g : List ℕ) (row : List (List ℕ)) → length rows ≡ length keys → None ≡ cond (is_among key keys) (Some (number_of keys key)) None →
    after ≡ with_atom key keys → row ≡ g ∷ [] → new ≡ rows ++ row ∷ [] → (h : List ℕ) → rows_by after new h ≡ rows_by keys rows h ++ cond (same_atom h key) (g ∷ []) []
put_new keys after rows new key g row even none e f k h =
    let out = none_among keys key none in
    ap (λ z. rows_by z new h) (e ∙ ap (λ b. cond b keys (keys ++ key ∷ [])) out)
    ∙ ap (λ z. rows_by (keys ++ key ∷ []) z h) (k ∙ ap (λ z. rows ++ z ∷ []) f)
    ∙ rows_last keys rows key (g ∷ []) h even out

pub even_new : {X : Type 0} (keys after : List (List ℕ)) (rows new : List X) (key : List ℕ) (row : X) → length rows ≡ length keys → None ≡ cond (is_among key keys) (Some (number_of keys key)) None →
    after ≡ with_atom key keys → new ≡ rows ++ row ∷ [] → length new ≡ length after
even_new keys after rows new key row even none e k =
    let a : length after ≡ length (keys ++ key ∷ []) = ap length (e ∙ ap (λ b. cond b keys (keys ++ key ∷ [])) (none_among keys key none)) in
    let b : length new ≡ length (rows ++ row ∷ []) = ap length k in
    let c = length-append keys (key ∷ []) in
    let f = length-append rows (row ∷ []) in
    omega (arith, a, b, c, f, even)

-- what is put at a key stands there, and what stood anywhere still does
record Puts (keys after : List (List ℕ)) (rows new : Rows) (key g : List ℕ) : Type 0 where
  pub kept : (h x : List ℕ) → is_among x (rows_by keys rows h) ≡ true → is_among x (rows_by after new h) ≡ true
  pub there : is_among g (rows_by after new key) ≡ true

puts_from : (keys after : List (List ℕ)) (rows new : Rows) (key g : List ℕ) → ((h : List ℕ) → rows_by after new h ≡ rows_by keys rows h ++ cond (same_atom h key) (g ∷ []) []) → Puts keys after rows new key g
puts_from keys after rows new key g made = record {
  kept = λ h x e. ap (λ z. is_among x z) (made h) ∙ is_among-append x (rows_by keys rows h) (cond (same_atom h key) (g ∷ []) []) ∙ or_left _ _ e;
  there =
      (ap (λ z. is_among g z) (made key) ∙ is_among-append g (rows_by keys rows key) (cond (same_atom key key) (g ∷ []) [])
      ∙ or_right _ _ (ap (λ b. is_among g (cond b (g ∷ []) [])) (same-refl key) ∙ or_left _ _ (same-refl g)));
}

-- an atom stands at its head and at its first so many objects
pub record IsPut (keys after : List (List ℕ)) (rows new : Rows) (h : ℕ) (os : List ℕ) (n : ℕ) : Type 0 where
  pub kept : (key x : List ℕ) → is_among x (rows_by keys rows key) ≡ true → is_among x (rows_by after new key) ≡ true
  pub head : is_among (h ∷ os) (rows_by after new (h ∷ [])) ≡ true
  pub place : (k o : ℕ) → k < n → slice_get os k ≡ Some o → is_among (h ∷ os) (rows_by after new (h ∷ k ∷ o ∷ [])) ≡ true

pub put_head : (keys after : List (List ℕ)) (rows new : Rows) (h : ℕ) (os key g : List ℕ) → ((x : List ℕ) → rows_by after new x ≡ rows_by keys rows x ++ cond (same_atom x key) (g ∷ []) []) → key ≡ h ∷ [] → g ≡ h ∷ os → IsPut keys after rows new h os 0
put_head keys after rows new h os key g made e f =
    let puts = puts_from keys after rows new key g made in
    record {
      kept = puts.kept;
      head = ap (λ z. is_among z (rows_by after new (h ∷ []))) (sym f) ∙ ap (λ z. is_among g (rows_by after new z)) (sym e) ∙ puts.there;
      place = λ k o lt s. absurd (omega (arith, lt));
    }

pub put_place : (keys mid after : List (List ℕ)) (rows between new : Rows) (h : ℕ) (os key g : List ℕ) (n q : ℕ) → IsPut keys mid rows between h os n → ((x : List ℕ) → rows_by after new x ≡ rows_by mid between x ++ cond (same_atom x key) (g ∷ []) []) →
    key ≡ h ∷ n ∷ q ∷ [] → g ≡ h ∷ os → slice_get os n ≡ Some q → IsPut keys after rows new h os (n + 1)
put_place keys mid after rows between new h os key g n q put made e f at =
    let puts = puts_from mid after between new key g made in
    record {
      kept = λ k x i. puts.kept k x (put.kept k x i);
      head = puts.kept (h ∷ []) (h ∷ os) put.head;
      place = λ k o lt s. elim (cases_lt k n) [
        | inl l ↦ puts.kept (h ∷ k ∷ o ∷ []) (h ∷ os) (put.place k o l s)
        | inr ge ↦
            let same : k ≡ n = omega (arith, lt, ge) in
            let obj : o ≡ q = some_is o q (sym s ∙ ap (λ z. slice_get os z) same ∙ at) in
            ap (λ z. is_among (h ∷ os) (rows_by after new z)) (ap (λ z. h ∷ z ∷ o ∷ []) same ∙ ap (λ z. h ∷ n ∷ z ∷ []) obj ∙ sym e)
            ∙ ap (λ z. is_among z (rows_by after new key)) (sym f) ∙ puts.there
      ];
    }

below_length : (os : List ℕ) (k o : ℕ) → slice_get os k ≡ Some o → k < length os
below_length [] k o e = absurd (none_some o e)
below_length (q ∷ os) zero o e = omega arith
below_length (q ∷ os) (suc k) o e = let m = below_length os k o e in omega arith

pub put_all_places : (keys after : List (List ℕ)) (rows new : Rows) (h : ℕ) (os : List ℕ) (n : ℕ) → IsPut keys after rows new h os n → length os ≤ n → Finds after new h os
put_all_places keys after rows new h os n put le = record {
  head = put.head;
  place = λ k o s. put.place k o (let m = below_length os k o s in omega (arith, m, le)) s;
}

-- the first atoms of a list are found
pub record AreFound (keys : List (List ℕ)) (rows : Rows) (atoms : List (List ℕ)) (keys_even : ℕ) : Type 0 where
  pub even : keys_even ≡ length keys
  pub found : FindsAll keys rows atoms

pub found_start : (keys : List (List ℕ)) (rows : Rows) (n : ℕ) → n ≡ length keys → AreFound keys rows [] n
found_start keys rows n e = record { even = e; found = λ h os i. absurd (both_ways false refl i) }

pub found_kept : (keys after : List (List ℕ)) (rows new : Rows) (h : ℕ) (os : List ℕ) → ((key x : List ℕ) → is_among x (rows_by keys rows key) ≡ true → is_among x (rows_by after new key) ≡ true) → Finds keys rows h os → Finds after new h os
found_kept keys after rows new h os kept finds = record {
  head = kept (h ∷ []) (h ∷ os) finds.head;
  place = λ k o s. kept (h ∷ k ∷ o ∷ []) (h ∷ os) (finds.place k o s);
}

-- one more atom is found
found-next : (keys after : List (List ℕ)) (rows new : Rows) (atoms : List (List ℕ)) (g : List ℕ) (n m : ℕ) → AreFound keys rows atoms n → m ≡ length after →
    ((key x : List ℕ) → is_among x (rows_by keys rows key) ≡ true → is_among x (rows_by after new key) ≡ true) → ((h : ℕ) (os : List ℕ) → g ≡ h ∷ os → Finds after new h os) → AreFound after new (atoms ++ g ∷ []) m
found-next keys after rows new atoms g n m before even kept finds = record {
  even = even;
  found = λ x xs i. elim (or_cases (is_among (x ∷ xs) atoms) (is_among (x ∷ xs) (g ∷ [])) (sym (is_among-append (x ∷ xs) atoms (g ∷ [])) ∙ i)) [
    | inl old ↦ found_kept keys after rows new x xs kept (before.found x xs old)
    | inr this ↦ finds x xs (sym (same_is (x ∷ xs) g (only _ this)))
  ];
}
  where
    only : (b : Bool) → (b || false) ≡ true → b ≡ true
    only true j = refl
    only false j = absurd (both_ways false refl j)

pub found-step : {R : Type 0} (items : R → List ℕ) (keys after : List (List ℕ)) (rows new : Rows) (xs : List R) (i n m : ℕ) (x : R) → i < length xs → x ≡ get_or xs i x → AreFound keys rows (map items (take i xs)) n → m ≡ length after →
    ((key x : List ℕ) → is_among x (rows_by keys rows key) ≡ true → is_among x (rows_by after new key) ≡ true) → ((h : ℕ) (os : List ℕ) → items x ≡ h ∷ os → Finds after new h os) → AreFound after new (map items (take (i + 1) xs)) m
found-step items keys after rows new xs i n m x lt at before even kept finds =
    subst (λ z. AreFound after new z m)
    (sym (ap (λ z. map items z) (take_more xs i x lt ∙ ap (λ z. take i xs ++ z ∷ []) (sym at)) ∙ map-append items (take i xs) (x ∷ [])))
    (found-next keys after rows new (map items (take i xs)) (items x) n m before even kept finds)

pub get_is : (os : List ℕ) (k : ℕ) → k < length os → slice_get os k ≡ Some (get_or os k 0)
get_is [] k lt = absurd (omega arith)
get_is (o ∷ os) zero lt = refl
get_is (o ∷ os) (suc k) lt = get_is os k (omega arith)

-- the atoms with an atom's head are all that it may stand for
pub covers_head : (keys : List (List ℕ)) (rows : Rows) (atoms : List (List ℕ)) (chosen : List ℕ) (a : Atom) → FindsAll keys rows atoms → Covers atoms chosen a (rows_by keys rows (a.head ∷ []))
covers_head keys rows atoms chosen a finds [] i f = absurd (both_ways false refl f)
covers_head keys rows atoms chosen a finds (h ∷ os) i f =
    let same : a.head ≡ h = eqb-true a.head h (and_parts (a.head == h) (could_match chosen a.args os) f).0 in
    ap (λ z. is_among (h ∷ os) (rows_by keys rows (z ∷ []))) same ∙ (finds h os i).head

stand_is : (chosen : List ℕ) (t : Term) (o q : ℕ) → settled chosen t ≡ Some o → could_stand chosen t q ≡ true → q ≡ o
stand_is chosen (terms.Param k) o q e f = sym (eqb-true _ _ (passed (ltb k (length chosen)) (get_or chosen k 0 == q) (lt-ltb _ _ (below_length chosen k o e)) f)) ∙ index_is chosen k o e
  where
    passed : (c b : Bool) → c ≡ true → (not c || b) ≡ true → b ≡ true
    passed true b g t = t
    passed false b g t = absurd (both_ways false refl g)

    index_is : (xs : List ℕ) (k o : ℕ) → slice_get xs k ≡ Some o → get_or xs k 0 ≡ o
    index_is [] k o e = absurd (none_some o e)
    index_is (x ∷ xs) zero o e = some_is x o e
    index_is (x ∷ xs) (suc k) o e = index_is xs k o e
stand_is chosen (terms.Object c) o q e f = sym (eqb-true c q f) ∙ some_is c o e

match_at : (chosen : List ℕ) (ts : List Term) (os : List ℕ) (k : ℕ) (t : Term) (o : ℕ) → could_match chosen ts os ≡ true → slice_get ts k ≡ Some t → settled chosen t ≡ Some o → slice_get os k ≡ Some o
match_at chosen [] os k t o f at e = absurd (none_some t at)
match_at chosen (u ∷ ts) [] k t o f at e = absurd (both_ways false refl f)
match_at chosen (u ∷ ts) (q ∷ os) zero t o f at e = ap (λ z. Some z) (stand_is chosen t o q e (subst (λ z. could_stand chosen z q ≡ true) (some_is u t at) (and_parts (could_stand chosen u q) (could_match chosen ts os) f).0))
match_at chosen (u ∷ ts) (q ∷ os) (suc k) t o f at e = match_at chosen ts os k t o (and_parts (could_stand chosen u q) (could_match chosen ts os) f).1 at e

-- so are those among them with a settled object at its place
pub covers_place : (keys : List (List ℕ)) (rows : Rows) (atoms : List (List ℕ)) (chosen : List ℕ) (a : Atom) (k : ℕ) (t : Term) (o : ℕ) → FindsAll keys rows atoms → slice_get a.args k ≡ Some t → settled chosen t ≡ Some o →
    Covers atoms chosen a (rows_by keys rows (a.head ∷ k ∷ o ∷ []))
covers_place keys rows atoms chosen a k t o finds at e [] i f = absurd (both_ways false refl f)
covers_place keys rows atoms chosen a k t o finds at e (h ∷ os) i f =
    let parts = and_parts (a.head == h) (could_match chosen a.args os) f in
    ap (λ z. is_among (h ∷ os) (rows_by keys rows (z ∷ k ∷ o ∷ []))) (eqb-true a.head h parts.0)
    ∙ (finds h os i).place k o (match_at chosen a.args os k t o parts.1 at e)

-- an element of a list is written in place, and what it is seen as has one more at its end
pub pushed_at : {R G : Type 0} (items : R → List G) (see : G → List ℕ) (rows : List R) (n : ℕ) (old new : R) (g : G) → n < length rows → old ≡ get_or rows n old → items new ≡ items old ++ g ∷ [] →
    map (λ r. map see (items r)) (set rows n new) ≡ set (map (λ r. map see (items r)) rows) n (get_or (map (λ r. map see (items r)) rows) n [] ++ see g ∷ [])
pushed_at items see rows n old new g lt at made =
    map-set (λ r. map see (items r)) rows n new
    ∙ ap (λ z. set (map (λ r. map see (items r)) rows) n z)
    (ap (λ z. map see z) made ∙ map-append see (items old) (g ∷ [])
    ∙ ap (λ z. z ++ see g ∷ []) (ap (λ r. map see (items r)) at ∙ sym (get_or-map (λ r. map see (items r)) rows n old [] lt)))

-- one more row behind those that are there
pub seen-push : (rows new : List (Vec (Bor (List ℕ)) Global)) (row : Vec (Bor (List ℕ)) Global) → new ≡ rows ++ row ∷ [] → seen new ≡ seen rows ++ seen_row row ∷ []
seen-push rows new row e = ap seen e ∙ map-append (λ r. seen_row r) rows (row ∷ [])

pub seen-even : (keys : List (List ℕ)) (rows : List (Vec (Bor (List ℕ)) Global)) → length rows ≡ length keys → length (seen rows) ≡ length keys
seen-even keys rows e = length-map rows (λ r. seen_row r) ∙ e

-- the answer of a look-up is that of an equal key
pub at_key : (keys : List (List ℕ)) (key same : List ℕ) (r : Option ℕ) → r ≡ cond (is_among same keys) (Some (number_of keys same)) None → same ≡ key → r ≡ cond (is_among key keys) (Some (number_of keys key)) None
at_key keys key same r e f = e ∙ ap (λ z. cond (is_among z keys) (Some (number_of keys z)) None) f

pub covers_same : (atoms : List (List ℕ)) (chosen : List ℕ) (a : Atom) (rows others : List (List ℕ)) → rows ≡ others → Covers atoms chosen a others → Covers atoms chosen a rows
covers_same atoms chosen a rows others e h = λ g i f. ap (λ z. is_among g z) e ∙ h g i f
