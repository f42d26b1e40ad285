-- In a list of pairs that rises, a pair is sought behind each smaller one, and before each greater one.
use Rattle.std.proofs.Common.{◌≡◌, ℕ, Bool, true, false, ◌&&◌, ◌||◌, eqb, List, [], ◌∷◌, ◌++◌, take, drop, refl, sym, ap, ◌∙◌, inl, inr, arith}
use Rattle.std.specs.List.{list_all}
use Rattle.std.proofs.lemmas.Bool.{and_parts, and_from, eqb-true, false_from_ne_true}
use Rattle.std.proofs.lemmas.List.{take-append-drop}
use Rattle.std.proofs.lemmas.List.Folds.{list_any-append, list_all-append}
use Rattle.bd_base.specs.Pairs.{is_before}
use Rattle.bd_tree.specs.Order.{is_less, is_rising}
use Rattle.bd_tree.proofs.MisfitLemmas.{IsLess, less_parts, less_trans}
use Rattle.bd_tree.proofs.OrderLemmas.{none_of}

module _ (m : ℕ × ℕ) where
  rising_parts : (below above : List (ℕ × ℕ)) → is_rising (below ++ m ∷ above) ≡ true → (list_all (λ p. is_less p m) below ≡ true) × (list_all (is_less m) above ≡ true) × (is_rising below ≡ true) × (is_rising above ≡ true)
  rising_parts [] above r = let parts = and_parts (list_all (is_less m) above) (is_rising above) r in (refl, parts.0, refl, parts.1)
  rising_parts (p ∷ ps) above r =
      let parts = and_parts (list_all (is_less p) (ps ++ m ∷ above)) (is_rising (ps ++ m ∷ above)) r in
      let rest = rising_parts ps above parts.1 in
      let all = and_parts (list_all (is_less p) ps) (list_all (is_less p) (m ∷ above)) (sym (list_all-append (is_less p) ps (m ∷ above)) ∙ parts.0) in
      (and_from _ _ (and_parts (is_less p m) (list_all (is_less p) above) all.1).0 rest.0, rest.1, and_from _ _ all.0 rest.2, rest.3)

module _ (i j : ℕ) where
  abbrev here : ℕ × ℕ → Bool
  here p = eqb p.0 i && eqb p.1 j

  off_less : (p : ℕ × ℕ) → is_less p (i, j) ≡ true → here p ≡ false
  off_less p l = false_from_ne_true _ (λ e. unlike p (less_parts p (i, j) l) e)
    where
      unlike : (p : ℕ × ℕ) → IsLess p (i, j) → here p ≡ true → ⊥
      unlike p (inl up) e = let same : p.0 ≡ i = eqb-true p.0 i (and_parts (eqb p.0 i) (eqb p.1 j) e).0 in omega (arith, up, same)
      unlike p (inr up) e = let same : p.1 ≡ j = eqb-true p.1 j (and_parts (eqb p.0 i) (eqb p.1 j) e).1 in omega (arith, up.1, same)

  off_more : (p : ℕ × ℕ) → is_less (i, j) p ≡ true → here p ≡ false
  off_more p l = false_from_ne_true _ (λ e. unlike p (less_parts (i, j) p l) e)
    where
      unlike : (p : ℕ × ℕ) → IsLess (i, j) p → here p ≡ true → ⊥
      unlike p (inl up) e = let same : p.0 ≡ i = eqb-true p.0 i (and_parts (eqb p.0 i) (eqb p.1 j) e).0 in omega (arith, up, same)
      unlike p (inr up) e = let same : p.1 ≡ j = eqb-true p.1 j (and_parts (eqb p.0 i) (eqb p.1 j) e).1 in omega (arith, up.1, same)

  module _ (left below above : List (ℕ × ℕ)) (m : ℕ × ℕ) (split : below ++ m ∷ above ≡ left) (rise : is_rising left ≡ true) where
    parts : (list_all (λ p. is_less p m) below ≡ true) × (list_all (is_less m) above ≡ true) × (is_rising below ≡ true) × (is_rising above ≡ true)
    parts = rising_parts m below above (ap is_rising split ∙ rise)

    pub below_rises : is_rising below ≡ true
    below_rises = parts.2

    pub above_rises : is_rising above ≡ true
    above_rises = parts.3

    whole : is_before left i j ≡ (is_before below i j || (here m || is_before above i j))
    whole = ap (λ z. is_before z i j) (sym split) ∙ list_any-append here below (m ∷ above)

    pub only_above : is_less m (i, j) ≡ true → is_before above i j ≡ is_before left i j
    only_above l = sym (
        whole
        ∙ ap (λ z. z || (here m || is_before above i j)) (none_of (λ p. is_less p m) here (λ p up. off_less p (less_trans p m (i, j) up l)) below parts.0)
        ∙ ap (λ z. z || is_before above i j) (off_less m l))

    pub only_below : is_less (i, j) m ≡ true → is_before below i j ≡ is_before left i j
    only_below l = sym (
        whole
        ∙ ap (λ z. is_before below i j || (z || is_before above i j)) (off_more m l)
        ∙ ap (λ z. is_before below i j || z) (none_of (is_less m) here (λ p up. off_more p (less_trans (i, j) m p l up)) above parts.1)
        ∙ or_false (is_before below i j))
      where
        or_false : (b : Bool) → (b || false) ≡ b
        or_false true = refl
        or_false false = refl

pub joined_parts : (left below from above : List (ℕ × ℕ)) (m : ℕ × ℕ) (k : ℕ) → below ≡ take k left → from ≡ drop k left → from ≡ m ∷ above → below ++ m ∷ above ≡ left
joined_parts left below from above m k b f is = ap (λ z. z ++ m ∷ above) b ∙ ap (λ z. take k left ++ z) (sym is ∙ f) ∙ take-append-drop k left
