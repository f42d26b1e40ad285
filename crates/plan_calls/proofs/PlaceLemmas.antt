-- Places of what passes a test, walked and looked up.
use Rattle.std.proofs.Common.{◌≡◌, ℕ, zero, suc, ◌+◌, ◌<◌, ◌≤◌, Bool, true, false, cond, List, [], ◌∷◌, ◌++◌, length, take, drop, Option, Some, None, slice_get, refl, sym, ap, ◌∙◌, subst, arith}
use Rattle.std.specs.Option.{option_map_or}
use Rattle.std.proofs.lemmas.Bool.{both_ways}
use Rattle.bd_ground.proofs.MemberLemmas.{In, here, there, some_is, none_some}
use Rattle.plan_calls.specs.Places.{shifted, place_by, first_place, behind}
use Rattle.plan_calls.specs.Agreement.{IsThere}

pub shifted-none : (r : Option ℕ) → shifted 0 r ≡ r
shifted-none None = refl
shifted-none (Some k) = ap (λ n. Some n) (let e : 0 + k ≡ k = omega arith in e)

pub shifted-more : (n : ℕ) (r : Option ℕ) → shifted n (shifted 1 r) ≡ shifted (n + 1) r
shifted-more n None = refl
shifted-more n (Some k) = ap (λ m. Some m) (let e : n + (1 + k) ≡ n + 1 + k = omega arith in e)

module _ {X : Type 0} where
  pub below_from : (xs : List X) (i : ℕ) (x : X) → slice_get xs i ≡ Some x → i < length xs
  below_from [] i x e = absurd (none_some x e)
  below_from (y ∷ xs) zero x e = omega arith
  below_from (y ∷ xs) (suc i) x e = let m = below_from xs i x e in omega arith

  pub drop-at : (xs : List X) (i : ℕ) (x : X) → slice_get xs i ≡ Some x → drop i xs ≡ x ∷ drop (i + 1) xs
  drop-at [] i x e = absurd (none_some x e)
  drop-at (y ∷ xs) zero x e = ap (λ z. z ∷ xs) (some_is y x e)
  drop-at (y ∷ xs) (suc i) x e = drop-at xs i x e ∙ ap (λ n. x ∷ drop n (y ∷ xs)) (let e : suc (i + 1) ≡ suc i + 1 = omega arith in e)

  pub take-at : (xs : List X) (i : ℕ) (x : X) → slice_get xs i ≡ Some x → take (i + 1) xs ≡ take i xs ++ x ∷ []
  take-at [] i x e = absurd (none_some x e)
  take-at (y ∷ xs) zero x e = ap (λ z. z ∷ []) (some_is y x e)
  take-at (y ∷ xs) (suc i) x e = ap (λ n. take n (y ∷ xs)) (let e : suc i + 1 ≡ suc (i + 1) = omega arith in e) ∙ ap (λ z. y ∷ z) (take-at xs i x e)

  pub take-length : (xs : List X) (n : ℕ) → length xs ≤ n → take n xs ≡ xs
  take-length [] zero le = refl
  take-length [] (suc n) le = refl
  take-length (y ∷ xs) zero le = absurd (omega arith)
  take-length (y ∷ xs) (suc n) le = ap (λ z. y ∷ z) (take-length xs n (omega arith))

  pub length-taken : (xs : List X) (n : ℕ) → n ≤ length xs → length (take n xs) ≡ n
  length-taken xs zero le = refl
  length-taken [] (suc n) le = absurd (omega arith)
  length-taken (y ∷ xs) (suc n) le = ap (λ m. suc m) (length-taken xs n (omega arith))

  pub drop-length : (xs : List X) (n : ℕ) → length xs ≤ n → drop n xs ≡ []
  drop-length [] zero le = refl
  drop-length [] (suc n) le = refl
  drop-length (y ∷ xs) zero le = absurd (omega arith)
  drop-length (y ∷ xs) (suc n) le = drop-length xs n (omega arith)

  module _ (t : X → Bool) where
    -- an element that doesn't pass is walked over
    pub place-next : (xs : List X) (i : ℕ) (x : X) → slice_get xs i ≡ Some x → t x ≡ false → shifted (i + 1) (place_by t (drop (i + 1) xs)) ≡ shifted i (place_by t (drop i xs))
    place-next xs i x e f =
        sym (ap (λ z. shifted i (place_by t z)) (drop-at xs i x e) ∙ ap (λ b. shifted i (cond b (Some 0) (shifted 1 (place_by t (drop (i + 1) xs))))) f ∙ shifted-more i (place_by t (drop (i + 1) xs)))

    -- one that passes is the place
    pub place-here : (xs : List X) (i : ℕ) (x : X) → slice_get xs i ≡ Some x → t x ≡ true → Some i ≡ shifted i (place_by t (drop i xs))
    place-here xs i x e f =
        sym (ap (λ z. shifted i (place_by t z)) (drop-at xs i x e) ∙ ap (λ b. shifted i (cond b (Some 0) (shifted 1 (place_by t (drop (i + 1) xs))))) f ∙ ap (λ n. Some n) (let e : i + 0 ≡ i = omega arith in e))

    pub place-end : (xs : List X) (n : ℕ) → length xs ≤ n → None ≡ shifted n (place_by t (drop n xs))
    place-end xs n le = sym (ap (λ z. shifted n (place_by t z)) (drop-length xs n le))

    pub place-append : (xs : List X) (x : X) → place_by t (xs ++ x ∷ []) ≡ first_place (place_by t xs) (cond (t x) (Some (length xs)) None)
    place-append [] x = by_test (t x)
      where
        by_test : (b : Bool) → cond b (Some 0) (shifted 1 None) ≡ cond b (Some 0) None
        by_test true = refl
        by_test false = refl
    place-append (y ∷ xs) x = by_test (t y) (place-append xs x)
      where
        moved : (r : Option ℕ) (b : Bool) → shifted 1 (first_place r (cond b (Some (length xs)) None)) ≡ first_place (shifted 1 r) (cond b (Some (suc (length xs))) None)
        moved None true = ap (λ n. Some n) (let e : 1 + length xs ≡ suc (length xs) = omega arith in e)
        moved None false = refl
        moved (Some k) b = refl

        by_test : (b : Bool) → place_by t (xs ++ x ∷ []) ≡ first_place (place_by t xs) (cond (t x) (Some (length xs)) None) →
            cond b (Some 0) (shifted 1 (place_by t (xs ++ x ∷ []))) ≡ first_place (cond b (Some 0) (shifted 1 (place_by t xs))) (cond (t x) (Some (suc (length xs))) None)
        by_test true more = refl
        by_test false more = ap (λ r. shifted 1 r) more ∙ moved (place_by t xs) (t x)

    -- what is found passes
    pub place_in : (xs : List X) (k : ℕ) → place_by t xs ≡ Some k → (x : X) × In x xs × (t x ≡ true) × (slice_get xs k ≡ Some x)
    place_in [] k e = absurd (none_some k e)
    place_in (y ∷ xs) k e = by_test (t y) refl e (place_in xs)
      where
        later : (r : Option ℕ) → place_by t xs ≡ r → shifted 1 r ≡ Some k → ((j : ℕ) → place_by t xs ≡ Some j → (x : X) × In x xs × (t x ≡ true) × (slice_get xs j ≡ Some x)) → (x : X) × In x (y ∷ xs) × (t x ≡ true) × (slice_get (y ∷ xs) k ≡ Some x)
        later None f g more = absurd (none_some k g)
        later (Some j) f g more =
            let r = more j f in
            let e : suc j ≡ k = (let h : suc j ≡ 1 + j = omega arith in h ∙ some_is (1 + j) k g) in
            (r.0, there r.1, r.2, ap (λ z. slice_get (y ∷ xs) z) (sym e) ∙ r.3)

        by_test : (b : Bool) → t y ≡ b → cond b (Some 0) (shifted 1 (place_by t xs)) ≡ Some k → ((j : ℕ) → place_by t xs ≡ Some j → (x : X) × In x xs × (t x ≡ true) × (slice_get xs j ≡ Some x)) → (x : X) × In x (y ∷ xs) × (t x ≡ true) × (slice_get (y ∷ xs) k ≡ Some x)
        by_test true f g more = (y, here, f, ap (λ z. slice_get (y ∷ xs) z) (sym (some_is 0 k g)))
        by_test false f g more = later (place_by t xs) refl g more

    -- what passes is found
    pub place_there : (xs : List X) (x : X) → In x xs → t x ≡ true → IsThere (place_by t xs)
    place_there [] x i e = elim i [ ]
    place_there (y ∷ xs) x here e = subst (λ b. IsThere (cond b (Some 0) (shifted 1 (place_by t xs)))) (sym e) tt
    place_there (y ∷ xs) x (there i) e = by_test (t y) (place_by t xs) (place_there xs x i e)
      where
        by_test : (b : Bool) (r : Option ℕ) → IsThere r → IsThere (cond b (Some 0) (shifted 1 r))
        by_test true r h = tt
        by_test false None h = h
        by_test false (Some k) h = tt

-- the walk over a list by looks at its places
module _ {X : Type 0} (t : X → Bool) (xs : List X) (o : ℕ) where
  pub place-told : option_map_or t (slice_get xs o) false ≡ true → Some o ≡ shifted o (place_by t (drop o xs))
  place-told e = by_value (slice_get xs o) refl e
    where
      by_value : (r : Option X) → slice_get xs o ≡ r → option_map_or t r false ≡ true → Some o ≡ shifted o (place_by t (drop o xs))
      by_value None f g = absurd (both_ways false refl g)
      by_value (Some x) f g = place-here t xs o x f g

  pub place-passed : o < length xs → option_map_or t (slice_get xs o) false ≡ false → shifted (o + 1) (place_by t (drop (o + 1) xs)) ≡ shifted o (place_by t (drop o xs))
  place-passed lt e = by_value (slice_get xs o) refl e
    where
      there_is : (xs : List X) (o : ℕ) → o < length xs → slice_get xs o ≡ None → ⊥
      there_is [] o lt f = omega arith
      there_is (x ∷ xs) zero lt f = none_some x (sym f)
      there_is (x ∷ xs) (suc o) lt f = there_is xs o (omega arith) f

      by_value : (r : Option X) → slice_get xs o ≡ r → option_map_or t r false ≡ false → shifted (o + 1) (place_by t (drop (o + 1) xs)) ≡ shifted o (place_by t (drop o xs))
      by_value None f g = absurd (there_is xs o lt f)
      by_value (Some x) f g = place-next t xs o x f g

pub behind-none : (r : Option (List ℕ)) → behind [] r ≡ r
behind-none None = refl
behind-none (Some ys) = refl
