-- Places of names in lists that grow.
use Rattle.std.proofs.Common.{◌≡◌, ℕ, suc, ◌+◌, ◌<◌, ◌≤◌, ◌||◌, Bool, true, false, cond, nat_lt, List, [], ◌∷◌, ◌++◌, Some, None, length, refl, sym, ap, subst, ◌∙◌, arith, append_assoc}
use Rattle.std.proofs.lemmas.List.{append-nil}
use Rattle.std.proofs.lemmas.Bool.Decides.{nat_tests}
use Rattle.std.proofs.lemmas.Slice.Eq.{bytes_eq-Decides}
use Rattle.std.specs.List.{position_or_len, list_any}
use Rattle.std.specs.Str.{bytes_eq}
use Rattle.pddl_form.specs.Names.{place_of, is_declared, names_from}

length_append : {X : Type 0} (xs ys : List X) → length (xs ++ ys) ≡ length xs + length ys
length_append [] ys = omega arith
length_append (x ∷ xs) ys = let h = length_append xs ys in omega (arith, h)

some_test : (t : Bool) (n i : ℕ) → cond t (Some n) None ≡ Some i → (t ≡ true) × (n ≡ i)
some_test true n i e = (refl, cc)
some_test false n i e = cc

none_test : (t : Bool) (n : ℕ) → cond t (Some n) None ≡ None → t ≡ false
none_test true n e = cc
none_test false n e = refl

lt_true : (m n : ℕ) → nat_lt m n ≡ true → m < n
lt_true m n e = grind (arith, nat_tests)

lt_false : (m n : ℕ) → nat_lt m n ≡ false → n ≤ m
lt_false m n e = grind (arith, nat_tests)

true_lt : (m n : ℕ) → m < n → nat_lt m n ≡ true
true_lt m n l = grind (arith, nat_tests)

first_kept : (p : List ℕ → Bool) (xs ys : List (List ℕ)) → position_or_len p xs < length xs → position_or_len p (xs ++ ys) ≡ position_or_len p xs
first_kept p [] ys l = absurd (omega (arith, l))
first_kept p (x ∷ xs) ys l = by_test (p x) refl (first_kept p xs ys)
  where
    by_test : (t : Bool) → p x ≡ t → (position_or_len p xs < length xs → position_or_len p (xs ++ ys) ≡ position_or_len p xs) → position_or_len p (x ∷ (xs ++ ys)) ≡ position_or_len p (x ∷ xs)
    by_test true e ih = rw e refl
    by_test false e ih = let h : 1 + position_or_len p xs < suc (length xs) = rw e at l in rw e (ap (λ (n : ℕ). 1 + n) (ih (omega (arith, h))))

first_last : (p : List ℕ → Bool) (xs : List (List ℕ)) (y : List ℕ) → p y ≡ true → length xs ≤ position_or_len p xs → position_or_len p (xs ++ y ∷ []) ≡ length xs
first_last p [] y e l = rw e refl
first_last p (x ∷ xs) y e l = by_test (p x) refl (first_last p xs y e)
  where
    by_test : (t : Bool) → p x ≡ t → (length xs ≤ position_or_len p xs → position_or_len p (xs ++ y ∷ []) ≡ length xs) → position_or_len p (x ∷ (xs ++ y ∷ [])) ≡ suc (length xs)
    by_test true q ih = let h : suc (length xs) ≤ 0 = rw q at l in absurd (omega (arith, h))
    by_test false q ih = let h : suc (length xs) ≤ 1 + position_or_len p xs = rw q at l in rw q (let g = ih (omega (arith, h)) in omega (arith, g))

first_any : (p : List ℕ → Bool) (xs : List (List ℕ)) → position_or_len p xs < length xs → list_any p xs ≡ true
first_any p [] l = absurd (omega (arith, l))
first_any p (x ∷ xs) l = by_test (p x) refl (first_any p xs)
  where
    by_test : (t : Bool) → p x ≡ t → (position_or_len p xs < length xs → list_any p xs ≡ true) → (p x || list_any p xs) ≡ true
    by_test true e ih = rw e refl
    by_test false e ih = let h : 1 + position_or_len p xs < suc (length xs) = rw e at l in rw e (ih (omega (arith, h)))

pub place_kept : (w : List ℕ) (xs ys : List (List ℕ)) (i : ℕ) → place_of w xs ≡ Some i → place_of w (xs ++ ys) ≡ Some i
place_kept w xs ys i e =
    let m : ℕ = position_or_len (λ n. bytes_eq w n) xs in
    let t = some_test (nat_lt m (length xs)) m i e in
    let l = lt_true m (length xs) t.0 in
    let k = first_kept (λ n. bytes_eq w n) xs ys l in
    let a = length_append xs ys in
    rw (k, true_lt m (length (xs ++ ys)) (omega (arith, l, a))) (ap (λ (n : ℕ). Some n) t.1)

pub place_last : (w : List ℕ) (xs : List (List ℕ)) → place_of w xs ≡ None → place_of w (xs ++ w ∷ []) ≡ Some (length xs)
place_last w xs e =
    let m : ℕ = position_or_len (λ n. bytes_eq w n) xs in
    let l = lt_false m (length xs) (none_test (nat_lt m (length xs)) m e) in
    let k = first_last (λ n. bytes_eq w n) xs w ((bytes_eq-Decides w w).1 refl) l in
    let a = length_append xs (w ∷ []) in
    rw (k, true_lt (length xs) (length (xs ++ w ∷ [])) (omega (arith, a))) refl

pub present : (w : List ℕ) (xs : List (List ℕ)) (i : ℕ) → place_of w xs ≡ Some i → is_declared w xs ≡ true
present w xs i e =
    let m : ℕ = position_or_len (λ n. bytes_eq w n) xs in
    let t = some_test (nat_lt m (length xs)) m i e in
    first_any (λ n. bytes_eq w n) xs (lt_true m (length xs) t.0)

-- names that come one after the other

pub names_both : (done xs ys : List (List ℕ)) → names_from done (xs ++ ys) ≡ names_from (names_from done xs) ys
names_both done [] ys = refl
names_both done (x ∷ xs) ys = names_both (cond (is_declared x done) done (done ++ x ∷ [])) xs ys

pub names_longer : (done xs : List (List ℕ)) → (more : List (List ℕ)) × (names_from done xs ≡ done ++ more)
names_longer done [] = ([], sym (append-nil done))
names_longer done (x ∷ xs) = by_test (is_declared x done) (names_longer (cond (is_declared x done) done (done ++ x ∷ [])) xs)
  where
    by_test : (t : Bool) → (more : List (List ℕ)) × (names_from (cond (is_declared x done) done (done ++ x ∷ [])) xs ≡ cond t done (done ++ x ∷ []) ++ more) → (more : List (List ℕ)) × (names_from (cond (is_declared x done) done (done ++ x ∷ [])) xs ≡ done ++ more)
    by_test true h = h
    by_test false h = (x ∷ h.0, h.1 ∙ append_assoc done (x ∷ []) h.0)

pub names_kept : (w : List ℕ) (done xs : List (List ℕ)) (i : ℕ) → place_of w done ≡ Some i → place_of w (names_from done xs) ≡ Some i
names_kept w done xs i e = let l = names_longer done xs in subst (λ (ns : List (List ℕ)). place_of w ns ≡ Some i) (sym l.1) (place_kept w done l.0 i e)
