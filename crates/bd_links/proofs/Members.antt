-- Members of lists, tests over them, and sets that are filtered or joined.
use Rattle.std.proofs.Common.{◌≡◌, ℕ, Bool, true, false, cond, ◌&&◌, ◌||◌, eqb, List, [], ◌∷◌, ◌++◌, filter, refl, sym, ◌∙◌, subst, ◌⊎◌, inl, inr}
use Rattle.std.specs.List.{list_any, list_all}
use Rattle.std.proofs.lemmas.Bool.{or_cases, and_parts, and_from, or_left, or_right, both_ways, cases_eq, eq-eqb, ne_eqb, eqb-true}
use Rattle.bd_base.specs.Facts.{has, plus, is_subset}
use Rattle.bd_base.proofs.FactLemmas.{has-plus}
use Rattle.bd_links.specs.Effects.{Kid, with_facts, all_facts}
use Rattle.bd_links.specs.declared.parts.Effects.{Effects}

pub data In {X : Type 0} : X → List X → Type 0 where
  here : {x : X} {xs : List X} → In x (x ∷ xs)
  there : {x y : X} {xs : List X} → In x xs → In x (y ∷ xs)

module _ {X : Type 0} where
  pub any_some : (t : X → Bool) (xs : List X) → list_any t xs ≡ true → (x : X) × In x xs × (t x ≡ true)
  any_some t [] e = absurd (both_ways false refl e)
  any_some t (x ∷ xs) e = elim (or_cases (t x) (list_any t xs) e) [
    | inl h ↦ (x, here, h)
    | inr h ↦ let r = any_some t xs h in (r.0, there r.1, r.2)
  ]

  pub some_any : (t : X → Bool) (x : X) (xs : List X) → In x xs → t x ≡ true → list_any t xs ≡ true
  some_any t x [] i e = elim i [ ]
  some_any t x (y ∷ xs) here e = or_left _ _ e
  some_any t x (y ∷ xs) (there i) e = or_right _ _ (some_any t x xs i e)

  pub all_at : (t : X → Bool) (x : X) (xs : List X) → list_all t xs ≡ true → In x xs → t x ≡ true
  all_at t x [] e i = elim i [ ]
  all_at t x (y ∷ xs) e here = (and_parts _ _ e).0
  all_at t x (y ∷ xs) e (there i) = all_at t x xs (and_parts _ _ e).1 i

  pub in_middle : (b a : List X) (k : X) → In k (b ++ k ∷ a)
  in_middle [] a k = here
  in_middle (x ∷ b) a k = there (in_middle b a k)

  pub in_with : (b a : List X) (k x : X) → In x (b ++ a) → In x (b ++ k ∷ a)
  in_with [] a k x i = there i
  in_with (y ∷ b) a k x here = here
  in_with (y ∷ b) a k x (there i) = there (in_with b a k x i)

  pub in_without : (b a : List X) (k x : X) → In x (b ++ k ∷ a) → (x ≡ k) ⊎ In x (b ++ a)
  in_without [] a k x here = inl refl
  in_without [] a k x (there i) = inr i
  in_without (y ∷ b) a k x here = inr here
  in_without (y ∷ b) a k x (there i) = elim (in_without b a k x i) [ inl e ↦ inl e | inr j ↦ inr (there j) ]

  pub all_from : (t : X → Bool) (xs : List X) → ((x : X) → In x xs → t x ≡ true) → list_all t xs ≡ true
  all_from t [] h = refl
  all_from t (x ∷ xs) h = and_from _ _ (h x here) (all_from t xs (λ y i. h y (there i)))

  pub in_none : (x : X) → In x [] → ⊥
  in_none x i = elim i [ ]

-- what is in a set that is filtered, or has the facts of all kids
pub has-filter : (t : ℕ → Bool) (s : List ℕ) (p : ℕ) → has (filter t s) p ≡ (t p && has s p)
has-filter t [] p = elim (t p) as (λ b. false ≡ (b && false)) [ true ↦ refl | false ↦ refl ]
has-filter t (x ∷ s) p = elim (cases_eq x p) [
  | inl e ↦ subst (λ z. has (cond (t z) (z ∷ filter t s) (filter t s)) p ≡ (t p && (eqb z p || has s p))) (sym e) (same (t p) refl (has-filter t s p))
  | inr ne ↦ rw (ne_eqb x p ne) (other (t x) ne (has-filter t s p))
]
  where
    same : (b : Bool) → t p ≡ b → has (filter t s) p ≡ (t p && has s p) → has (cond b (p ∷ filter t s) (filter t s)) p ≡ (b && (eqb p p || has s p))
    same true e h = rw (eq-eqb p p refl)
    same false e h = h ∙ rw e

    other : (b : Bool) → (x ≡ p → ⊥) → has (filter t s) p ≡ (t p && has s p) → has (cond b (x ∷ filter t s) (filter t s)) p ≡ (t p && has s p)
    other true ne h = rw (ne_eqb x p ne) h
    other false ne h = h

has-with_facts : (f : Effects → List ℕ) (s : List ℕ) (kids : List Kid) (p : ℕ) → has s p ≡ true → has (with_facts f s kids) p ≡ true
has-with_facts f s [] p e = e
has-with_facts f s (k ∷ kids) p e = has-with_facts f (plus s (f k.1.effects)) kids p (has-plus s (f k.1.effects) p ∙ or_right _ _ e)

has-kid_facts : (f : Effects → List ℕ) (s : List ℕ) (k : Kid) (kids : List Kid) (p : ℕ) → In k kids → has (f k.1.effects) p ≡ true → has (with_facts f s kids) p ≡ true
has-kid_facts f s k [] p i e = elim i [ ]
has-kid_facts f s k (j ∷ kids) p here e = has-with_facts f (plus s (f k.1.effects)) kids p (has-plus s (f k.1.effects) p ∙ or_left _ _ e)
has-kid_facts f s k (j ∷ kids) p (there i) e = has-kid_facts f (plus s (f j.1.effects)) k kids p i e

pub has-all_facts : (f : Effects → List ℕ) (k : Kid) (kids : List Kid) (p : ℕ) → In k kids → has (f k.1.effects) p ≡ true → has (all_facts f kids) p ≡ true
has-all_facts f k kids p i e = has-kid_facts f [] k kids p i e

pub subset_from_has : (xs s : List ℕ) → ((p : ℕ) → has xs p ≡ true → has s p ≡ true) → is_subset xs s ≡ true
subset_from_has [] s h = refl
subset_from_has (x ∷ xs) s h = and_from _ _ (h x (or_left _ _ (eq-eqb x x refl))) (subset_from_has xs s (λ p e. h p (or_right _ _ e)))

pub has_from_subset : (xs s : List ℕ) → is_subset xs s ≡ true → (p : ℕ) → has xs p ≡ true → has s p ≡ true
has_from_subset [] s h p e = absurd (both_ways false refl e)
has_from_subset (x ∷ xs) s h p e =
    let parts = and_parts (has s x) (is_subset xs s) h in
    elim (or_cases (eqb x p) (has xs p) e) [
      | inl same ↦ subst (λ z. has s z ≡ true) (eqb-true x p same) parts.0
      | inr later ↦ has_from_subset xs s parts.1 p later
    ]

-- what holds of all facts of a set holds of each
pub all_has : (t : ℕ → Bool) (s : List ℕ) (p : ℕ) → list_all t s ≡ true → has s p ≡ true → t p ≡ true
all_has t [] p e h = absurd (both_ways false refl h)
all_has t (x ∷ s) p e h =
    let parts = and_parts (t x) (list_all t s) e in
    elim (or_cases (eqb x p) (has s p) h) [ inl same ↦ subst (λ z. t z ≡ true) (eqb-true x p same) parts.0 | inr later ↦ all_has t s p parts.1 later ]
