-- The keys of closed entries.
use Rattle.std.proofs.Common.{◌≡◌, ℕ, Bool, true, false, not, ◌||◌, nat_eq, eqb, ◌⊎◌, inl, inr, List, [], ◌∷◌, ◌++◌, Vec, refl, sym, ap, ◌∙◌, subst, MatchBool, Global}
use Rattle.std.specs.List.Sorted.{IsPermutation}
use Rattle.std.specs.Cmp.Lexicographic.{pointwise}
use Rattle.std.proofs.lemmas.Bool.{both_ways, and_parts, and_from, or_cases, or_left, or_right, eq-eqb, eqb-true, false_from_ne_true}
use Rattle.std.proofs.lemmas.List.Sorted.{list_any-IsPermutation}
use Rattle.bd_states.specs.Closed.{has_key, AreKeys}
use Rattle.bd_states.specs.Entries.{HasState, states_of}
use Rattle.bd_states.specs.Passed.{Differs}
use Rattle.bd_states.specs.declared.entry.Entry.{Entry}

state_lacks : (s : List ℕ) (xs : List Entry) → (HasState s xs → ⊥) → Differs s (states_of xs)
state_lacks s [] none = tt
state_lacks s (x ∷ xs) none = ((λ same. none (inl (sym same))), state_lacks s xs (λ h. none (inr h)))

differs_not : (s : List ℕ) (xs : List Entry) → Differs s (states_of xs) → HasState s xs → ⊥
differs_not s [] d h = h
differs_not s (x ∷ xs) d (inl same) = d.0 (sym same)
differs_not s (x ∷ xs) d (inr later) = differs_not s xs d.1 later

pub lacks_from : (keys : List (Vec ℕ Global)) (xs : List Entry) (key s : List ℕ) (r : Bool) → AreKeys keys xs → key ≡ s → r ≡ has_key key keys → r ≡ false → Differs s (states_of xs)
lacks_from keys xs key s r are same is no_key = state_lacks s xs (λ h. both_ways r no_key (is ∙ ap (λ z. has_key z keys) same ∙ (are s).1 h))

pub no_key_from : (keys : List (Vec ℕ Global)) (xs : List Entry) (key s : List ℕ) → AreKeys keys xs → key ≡ s → Differs s (states_of xs) → has_key key keys ≡ false
no_key_from keys xs key s are same d = false_from_ne_true (has_key key keys) (λ h. differs_not s xs d ((are s).0 (sym (ap (λ z. has_key z keys) same) ∙ h)))

pub put_is : (key : Vec ℕ Global) (olds news : List (Vec ℕ Global)) (added : Bool) (Q : Type 0) → has_key key.items olds ≡ false → added ≡ not (has_key key.items olds) → MatchBool added (IsPermutation (key ∷ olds) news) Q →
    (facts : List ℕ) → has_key facts news ≡ (pointwise nat_eq facts key.items || has_key facts olds)
put_is key olds news added Q out is put facts =
    sym (list_any-IsPermutation (λ (k : Vec ℕ Global). pointwise nat_eq facts k.items) (key ∷ olds) news (subst (λ b. MatchBool b (IsPermutation (key ∷ olds) news) Q) (is ∙ ap not out) put))

pointwise_is : (xs ys : List ℕ) → pointwise nat_eq xs ys ≡ true → xs ≡ ys
pointwise_is [] [] h = refl
pointwise_is [] (y ∷ ys) h = absurd (both_ways false refl h)
pointwise_is (x ∷ xs) [] h = absurd (both_ways false refl h)
pointwise_is (x ∷ xs) (y ∷ ys) h =
    let parts = and_parts (eqb x y) (pointwise nat_eq xs ys) h in
    ap (λ z. z ∷ xs) (eqb-true x y parts.0) ∙ ap (λ z. y ∷ z) (pointwise_is xs ys parts.1)

pointwise_self : (xs : List ℕ) → pointwise nat_eq xs xs ≡ true
pointwise_self [] = refl
pointwise_self (x ∷ xs) = and_from (eqb x x) (pointwise nat_eq xs xs) (eq-eqb x x refl) (pointwise_self xs)

has_state_more : (s : List ℕ) (xs : List Entry) (e : Entry) → HasState s xs ⊎ (e.state ≡ s) → HasState s (xs ++ e ∷ [])
has_state_more s [] e (inl h) = absurd h
has_state_more s [] e (inr same) = inl same
has_state_more s (x ∷ xs) e (inl (inl same)) = inl same
has_state_more s (x ∷ xs) e (inl (inr later)) = inr (has_state_more s xs e (inl later))
has_state_more s (x ∷ xs) e (inr same) = inr (has_state_more s xs e (inr same))

has_state_cases : (s : List ℕ) (xs : List Entry) (e : Entry) → HasState s (xs ++ e ∷ []) → HasState s xs ⊎ (e.state ≡ s)
has_state_cases s [] e (inl same) = inr same
has_state_cases s [] e (inr h) = absurd h
has_state_cases s (x ∷ xs) e (inl same) = inl (inl same)
has_state_cases s (x ∷ xs) e (inr later) = elim (has_state_cases s xs e later) [ inl h ↦ inl (inr h) | inr same ↦ inr same ]

pub keys_more : (olds news : List (Vec ℕ Global)) (xs ys : List Entry) (e : Entry) (key : List ℕ) → AreKeys olds xs → key ≡ e.state → ys ≡ xs ++ e ∷ [] →
    ((facts : List ℕ) → has_key facts news ≡ (pointwise nat_eq facts key || has_key facts olds)) → AreKeys news ys
keys_more olds news xs ys e key are same is put = subst (AreKeys news) (sym is) (λ facts. (there_ facts, back facts))
  where
    there_ : (facts : List ℕ) → has_key facts news ≡ true → HasState facts (xs ++ e ∷ [])
    there_ facts h = has_state_more facts xs e (elim (or_cases (pointwise nat_eq facts key) (has_key facts olds) (sym (put facts) ∙ h)) [
      | inl new ↦ inr (sym (pointwise_is facts key new ∙ same))
      | inr old ↦ inl ((are facts).0 old)
    ])

    back : (facts : List ℕ) → HasState facts (xs ++ e ∷ []) → has_key facts news ≡ true
    back facts h = put facts ∙ elim (has_state_cases facts xs e h) [
      | inl old ↦ or_right _ _ ((are facts).1 old)
      | inr new ↦ or_left _ _ (subst (λ z. pointwise nat_eq z key ≡ true) (same ∙ new) (pointwise_self key))
    ]
