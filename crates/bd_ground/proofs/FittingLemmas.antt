-- The objects of a parameter's type are enough.
use Rattle.std.proofs.Common.{◌≡◌, ℕ, zero, suc, ◌+◌, ◌<◌, Bool, true, false, cond, not, ◌==◌, ◌&&◌, ◌||◌, List, [], ◌∷◌, ◌++◌, map, filter, length, Some, None, slice_get, refl, sym, ap, ◌∙◌, subst, arith}
use Rattle.std.specs.List.{AllByRecursion, list_all, flat_map}
use Rattle.std.proofs.lemmas.Bool.{both_ways}
use Rattle.std.proofs.lemmas.List.{map-append}
use Rattle.std.proofs.lemmas.List.Elements.{filter-append}
use Rattle.bd_base.specs.Bits.{upto}
use Rattle.pddl_types.specs.declared.domains.Schema.{Schema}
use Rattle.pddl_types.specs.declared.domains.Domain.{Domain}
use Rattle.pddl_types.specs.declared.problems.Problem.{Problem}
use Rattle.pddl_types.specs.Readable.{IsSchema}
use Rattle.bd_ground.specs.Atoms.{is_same}
use Rattle.bd_ground.specs.Instances.{things_of, fits, is_met, objects_of}
use Rattle.bd_ground.specs.Join.{extended, passes_now, last_fits, reach_of_same, reach_of_terms}
use Rattle.bd_ground.specs.Collect.{completed, IsEnough}
use Rattle.bd_ground.specs.Offers.{fitting}
use Rattle.bd_ground.proofs.MemberLemmas.{some_is, none_some}
use Rattle.bd_ground.proofs.WorldLemmas.{last_some}
use Rattle.bd_ground.proofs.ChoiceLemmas.{flat_map-filter}
use Rattle.bd_ground.proofs.AllowedLemmas.{upto-next}

pub fitting-next : (t : ℕ → Bool) (before new : List ℕ) (o : ℕ) (wanted : Bool) → before ≡ filter t (upto 0 o) → wanted ≡ t o → new ≡ cond wanted (before ++ o ∷ []) before → new ≡ filter t (upto 0 (o + 1))
fitting-next t before new o wanted e f g =
    g ∙ ap (λ b. cond b (before ++ o ∷ []) before) f ∙ ap (λ z. cond (t o) (z ++ o ∷ []) z) e ∙ by_test (t o) (filter t (upto 0 o)) ∙ sym (filter-append t (upto 0 o) (o ∷ [])) ∙ ap (λ z. filter t z) (sym (upto-next o))
  where
    nothing : (xs : List ℕ) → xs ≡ xs ++ []
    nothing [] = refl
    nothing (x ∷ xs) = ap (λ z. x ∷ z) (nothing xs)

    by_test : (b : Bool) (xs : List ℕ) → cond b (xs ++ o ∷ []) xs ≡ xs ++ cond b (o ∷ []) []
    by_test true xs = refl
    by_test false xs = nothing xs

pub lists-next : {X : Type 0} (see : X → List ℕ) (f : ℕ → List ℕ) (before new : List X) (x : X) (k : ℕ) → map see before ≡ map f (upto 0 k) → new ≡ before ++ x ∷ [] → see x ≡ f k → map see new ≡ map f (upto 0 (k + 1))
lists-next see f before new x k e g h =
    ap (λ z. map see z) g ∙ map-append see before (x ∷ []) ∙ ap (λ z. z ++ see x ∷ []) e ∙ ap (λ z. map f (upto 0 k) ++ z ∷ []) h
    ∙ sym (map-append f (upto 0 k) (k ∷ [])) ∙ ap (λ z. map f z) (sym (upto-next k))

list_is : (f : ℕ → List ℕ) (a n k : ℕ) → k < n → slice_get (map f (upto a n)) k ≡ Some (f (a + k))
list_is f a zero k lt = absurd (omega arith)
list_is f a (suc n) zero lt = ap (λ z. Some (f z)) (let e : a ≡ a + 0 = omega arith in e)
list_is f a (suc n) (suc k) lt = list_is f (a + 1) n k (omega arith) ∙ ap (λ z. Some (f z)) (let e : a + 1 + k ≡ a + suc k = omega arith in e)

get_there : (xs : List ℕ) (k : ℕ) → k < length xs → slice_get xs k ≡ None → ⊥
get_there [] k lt e = omega arith
get_there (x ∷ xs) zero lt e = none_some x (sym e)
get_there (x ∷ xs) (suc k) lt e = get_there xs k (omega arith) e

each_below : (n : ℕ) (xs : List ℕ) (k x : ℕ) → AllByRecursion (λ y. y < n) xs → slice_get xs k ≡ Some x → x < n
each_below n [] k x all e = absurd (none_some x e)
each_below n (y ∷ xs) zero x all e = subst (λ z. z < n) (some_is y x e) all.0
each_below n (y ∷ xs) (suc k) x all e = each_below n xs k x all.1 e

module _ (d : Domain) (p : Problem) (schema : Schema) (kinds chosen : List ℕ) where
  pub no_kind : length chosen + 1 + length kinds ≡ length schema.params → slice_get schema.params (length chosen) ≡ None → ⊥
  no_kind total e = get_there schema.params (length chosen) (omega (arith, total)) e

  refused : (kind o : ℕ) → slice_get schema.params (length chosen) ≡ Some kind → fits d.types (things_of d p) kind o ≡ false → passes_now d p schema (chosen ++ o ∷ []) ≡ false
  refused kind o at out =
      let now = chosen ++ o ∷ [] in
      let fit = last_fits d.types (things_of d p) schema.params now in
      let same = list_all (λ s. not (reach_of_same s == length now) || is_same now s) schema.equal in
      let other = list_all (λ s. not (reach_of_same s == length now) || not (is_same now s)) schema.differ in
      let met = list_all (λ a. not (reach_of_terms a.args == length now) || is_met d p now a) schema.pre in
      first_false (fit && same && other) met (first_false (fit && same) other (first_false fit same (last_some d.types (things_of d p) schema.params chosen o kind at ∙ out)))
    where
      first_false : (a b : Bool) → a ≡ false → (a && b) ≡ false
      first_false true b e = absurd (both_ways true e refl)
      first_false false b e = refl

  stops : (ks front : List ℕ) → passes_now d p schema front ≡ false → completed d p schema ks front ≡ []
  stops [] front e = ap (λ b. cond b (front ∷ []) []) e
  stops (k ∷ ks) front e = ap (λ b. cond b (flat_map (λ o. extended (passes_now d p schema) (λ _. objects_of d p) ks (front ++ o ∷ [])) (objects_of d p)) []) e

  enough_by_kind : (kind : ℕ) → slice_get schema.params (length chosen) ≡ Some kind → IsEnough d p schema kinds chosen (fitting d p kind)
  enough_by_kind kind at =
      sym (flat_map-filter (λ o. fits d.types (things_of d p) kind o) (λ o. completed d p schema kinds (chosen ++ o ∷ [])) (objects_of d p) (λ o out. stops kinds (chosen ++ o ∷ []) (refused kind o at out)))

  module _ (is : IsSchema d schema) (lists : List (List ℕ)) (made : lists ≡ map (λ k. fitting d p k) (upto 0 (length d.types))) where
    there : (kind : ℕ) → slice_get schema.params (length chosen) ≡ Some kind → slice_get lists kind ≡ Some (fitting d p kind)
    there kind at =
        ap (λ z. slice_get z kind) made ∙ list_is (λ k. fitting d p k) 0 (length d.types) kind (each_below (length d.types) schema.params (length chosen) kind is.kinds at)
        ∙ ap (λ z. Some (fitting d p z)) (let e : 0 + kind ≡ kind = omega arith in e)

    pub no_list : (kind : ℕ) → slice_get schema.params (length chosen) ≡ Some kind → slice_get lists kind ≡ None → ⊥
    no_list kind at e = none_some (fitting d p kind) (sym e ∙ there kind at)

    pub enough_by_list : (kind : ℕ) (xs : List ℕ) → slice_get schema.params (length chosen) ≡ Some kind → slice_get lists kind ≡ Some xs → IsEnough d p schema kinds chosen xs
    enough_by_list kind xs at e = subst (λ z. IsEnough d p schema kinds chosen z) (some_is (fitting d p kind) xs (sym (there kind at) ∙ e)) (enough_by_kind kind at)
