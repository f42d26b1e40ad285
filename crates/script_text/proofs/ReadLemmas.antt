-- What is read is spelled.
use Rattle.std.proofs.Common.{◌≡◌, ℕ, Bool, true, false, cond, ◌==◌, List, [], ◌∷◌, ◌++◌, Option, Some, None, Result, Ok, Err, map, refl, sym, ap, ◌∙◌, arith, append_assoc}
use Rattle.std.proofs.lemmas.List.{append-nil}
use Rattle.std.proofs.lemmas.Bool.Decides.{nat_tests}
use Rattle.std.specs.List.{list_all}
use Rattle.bd_base.specs.Facts.{plus}
use Rattle.script_text.specs.Lines.{is_name, is_empty_list, is_name_byte, in_parens}
use Rattle.script_text.specs.Names.{place_of}
use Rattle.script_text.specs.Reading.{Fault, ◌>>=◌, closed, put_first, unless_empty, needed, name_in, name_at, known_at, set_at, list_at}
use Rattle.script_text.specs.Spells.{ArePlaces}

pub bind_ok : {A B : Type 0} (r : Result A Fault) (f : A → Result B Fault) (y : B) → (r >>= f) ≡ Ok y → (x : A) × (r ≡ Ok x) × (f x ≡ Ok y)
bind_ok (Ok x) f y e = (x, refl, e)
bind_ok (Err d) f y e = cc

pub needed_ok : {A : Type 0} (d : Fault) (r : Option A) (x : A) → needed d r ≡ Ok x → r ≡ Some x
needed_ok d None x e = cc
needed_ok d (Some y) x e = cc

is_it : (b c : ℕ) → (b == c) ≡ true → b ≡ c
is_it b c e = grind (arith, nat_tests)

put_back : (b : ℕ) (r : Option (List ℕ)) (n : List ℕ) → put_first b r ≡ Some n → (m : List ℕ) × (r ≡ Some m) × (n ≡ b ∷ m)
put_back b None n e = cc
put_back b (Some m) n e = (m, refl, cc)

abbrev IsClosed : List ℕ → List ℕ → Type 0
IsClosed bs n = (bs ≡ n ++ 41 ∷ []) × (list_all is_name_byte n ≡ true)

ends_here : (b : ℕ) (bs n : List ℕ) → b ≡ 41 → cond (is_empty_list bs) (Some []) None ≡ Some n → IsClosed (b ∷ bs) n
ends_here b [] [] e h = (ap (λ (x : ℕ). x ∷ []) e, refl)
ends_here b [] (x ∷ n) e h = cc
ends_here b (x ∷ bs) n e h = cc

closed_back : (bs n : List ℕ) → closed bs ≡ Some n → IsClosed bs n
closed_back [] n e = cc
closed_back (b ∷ bs) n e = by_test (b == 41) (is_name_byte b) refl refl (closed_back bs) e
  where
    by_test : (s t : Bool) → (b == 41) ≡ s → is_name_byte b ≡ t → ((m : List ℕ) → closed bs ≡ Some m → IsClosed bs m) → cond s (cond (is_empty_list bs) (Some []) None) (cond t (put_first b (closed bs)) None) ≡ Some n → IsClosed (b ∷ bs) n
    by_test true t p q ih h = ends_here b bs n (is_it b 41 p) h
    by_test false true p q ih h =
        let m = put_back b (closed bs) n h in
        let c = ih m.0 m.1 in
        rw m.2 (ap (λ (xs : List ℕ). b ∷ xs) c.0, rw q c.1)
    by_test false false p q ih h = cc

filled_back : (r : Option (List ℕ)) (n : List ℕ) → unless_empty r ≡ Some n → (r ≡ Some n) × (is_empty_list n ≡ false)
filled_back None n e = cc
filled_back (Some []) n e = cc
filled_back (Some (b ∷ bs)) [] e = cc
filled_back (Some (b ∷ bs)) (x ∷ n) e = (e, refl)

pub named_back : (w n : List ℕ) → name_in w ≡ Some n → (w ≡ in_parens n) × (is_name n ≡ true)
named_back [] n e = cc
named_back (b ∷ bs) n e = by_test (b == 40) refl e
  where
    by_test : (s : Bool) → (b == 40) ≡ s → cond s (unless_empty (closed bs)) None ≡ Some n → (b ∷ bs ≡ in_parens n) × (is_name n ≡ true)
    by_test true p h =
        let f = filled_back (closed bs) n h in
        let c = closed_back bs n f.0 in
        let q : b ≡ 40 = is_it b 40 p in
        (rw (q, c.0) refl, rw (f.1, c.1) refl)
    by_test false p h = cc

pub record Known (names : List (List ℕ)) (w : List ℕ) (i : ℕ) : Type 0 where
  pub name : List ℕ
  pub word : w ≡ in_parens name
  pub named : is_name name ≡ true
  pub place : place_of name names ≡ Some i

pub known_back : (names : List (List ℕ)) (place : ℕ) (w : List ℕ) (i : ℕ) → known_at names place w ≡ Ok i → Known names w i
known_back names place w i e =
    let b = bind_ok (name_at place w) _ i e in
    let n = named_back w b.0 (needed_ok _ (name_in w) b.0 b.1) in
    record { name = b.0; word = n.0; named = n.1; place = needed_ok _ (place_of b.0 names) i b.2 }

-- the names that words are, and their places
pub record Placed (declared ws : List (List ℕ)) : Type 0 where
  pub names : List (List ℕ)
  pub places : List ℕ
  pub words : ws ≡ map in_parens names
  pub are : ArePlaces declared names places

abbrev pub no_places : (declared : List (List ℕ)) → Placed declared []
no_places declared = record { names = []; places = []; words = refl; are = tt }

abbrev pub more_places : (declared : List (List ℕ)) (w : List ℕ) (ws : List (List ℕ)) (i : ℕ) → Known declared w i → Placed declared ws → Placed declared (w ∷ ws)
more_places declared w ws i k p = record {
  names = k.name ∷ p.names;
  places = i ∷ p.places;
  words = rw (k.word, p.words) refl;
  are = (k.named, k.place, p.are);
}

pub list_back : (declared : List (List ℕ)) (place : ℕ) (list : List ℕ) (ws : List (List ℕ)) (total : List ℕ) → list_at declared place list ws ≡ Ok total → (p : Placed declared ws) × (total ≡ list ++ p.places)
list_back declared place list [] total e = (no_places declared, let h : total ≡ list = cc in h ∙ sym (append-nil list))
list_back declared place list (w ∷ ws) total e =
    let b = bind_ok (known_at declared place w) _ total e in
    let more = list_back declared place (list ++ b.0 ∷ []) ws total b.2 in
    (more_places declared w ws b.0 (known_back declared place w b.0 b.1) more.0, more.1 ∙ append_assoc list (b.0 ∷ []) more.0.places)

pub ok_is : {A : Type 0} (x y : A) (r : Result A Fault) → r ≡ Ok x → r ≡ Ok y → y ≡ x
ok_is x y r e f = cc

pub set_back : (facts : List (List ℕ)) (place : ℕ) (ws : List (List ℕ)) (total : List ℕ) → set_at facts place ws ≡ Ok total → (p : Placed facts ws) × (total ≡ plus [] p.places)
set_back facts place ws total e =
    let b = bind_ok (list_at facts place [] ws) _ total e in
    let l = list_back facts place [] ws b.0 b.1 in
    (l.0, ok_is _ _ _ refl b.2 ∙ ap (λ (xs : List ℕ). plus [] xs) l.1)
