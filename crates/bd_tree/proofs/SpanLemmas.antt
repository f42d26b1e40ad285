-- Where the first and the last element that pass a test stand, as tests of the first elements and of those behind.
use Rattle.std.proofs.Common.{◌≡◌, ℕ, zero, suc, ◌+◌, ◌-◌, ◌<◌, ◌≤◌, Bool, true, false, ◌||◌, ltb, List, [], ◌∷◌, length, get_or, take, drop, refl, sym, ap, ◌∙◌, arith}
use Rattle.std.specs.List.{list_any}
use Rattle.std.proofs.lemmas.Bool.{or_parts, or_left, or_from, lt-ltb, le-ltb}
use Rattle.std.proofs.lemmas.List.Folds.{list_any_at}

module _ {X : Type 0} (p : X → Bool) where
  ltb_suc : (i j : ℕ) → ltb i j ≡ ltb (suc i) (suc j)
  ltb_suc i j = grind arith

  -- the first is at i, or none of the i elements passes
  pub any_first : (xs : List X) (i : ℕ) (d : X) → list_any p (take i xs) ≡ false → (i < length xs → p (get_or xs i d) ≡ true) → (j : ℕ) → j ≤ length xs → list_any p (take j xs) ≡ ltb i j
  any_first xs i d none here zero le = sym (le-ltb i zero (omega arith))
  any_first [] i d none here (suc j) le = absurd (omega arith)
  any_first (x ∷ xs) zero d none here (suc j) le = or_left _ _ (here (omega arith)) ∙ sym (lt-ltb zero (suc j) (omega arith))
  any_first (x ∷ xs) (suc i) d none here (suc j) le =
      let parts = or_parts (p x) (list_any p (take i xs)) none in
      ap (λ b. b || list_any p (take j xs)) parts.0 ∙ any_first xs i d parts.1 (λ lt. here (omega arith)) j (omega arith) ∙ ltb_suc i j

  pub any_drop_none : (xs : List X) (j : ℕ) → list_any p xs ≡ false → list_any p (drop j xs) ≡ false
  any_drop_none xs zero none = none
  any_drop_none [] (suc j) none = refl
  any_drop_none (x ∷ xs) (suc j) none = any_drop_none xs j (or_parts (p x) (list_any p xs) none).1

  -- the last is at m, and none behind it passes
  pub any_last : (xs : List X) (m : ℕ) (d : X) → m < length xs → p (get_or xs m d) ≡ true → list_any p (drop (suc m) xs) ≡ false → (j : ℕ) → list_any p (drop j xs) ≡ ltb j (suc m)
  any_last xs m d lt here none zero = list_any_at p xs m d lt here ∙ sym (lt-ltb zero (suc m) (omega arith))
  any_last [] m d lt here none (suc j) = absurd (omega arith)
  any_last (x ∷ xs) zero d lt here none (suc j) = any_drop_none xs j none ∙ sym (le-ltb (suc j) (suc zero) (omega arith))
  any_last (x ∷ xs) (suc m) d lt here none (suc j) = any_last xs m d (omega arith) here none j ∙ ltb_suc j (suc m)

  -- none passes
  pub any_nowhere : (xs : List X) → list_any p xs ≡ false → (j : ℕ) → list_any p (drop j xs) ≡ ltb j zero
  any_nowhere xs none j = any_drop_none xs j none ∙ sym (le-ltb j zero (omega arith))

  -- the same of a number that is no less than 1
  pub any_last_at : (xs : List X) (past : ℕ) (d : X) → 0 < past → past ≤ length xs → p (get_or xs (past - 1) d) ≡ true → list_any p (drop past xs) ≡ false → (j : ℕ) → list_any p (drop j xs) ≡ ltb j (past - 1 + 1)
  any_last_at xs past d lt le here none j =
      let e : suc (past - 1) ≡ past = omega arith in
      let f : past - 1 + 1 ≡ past = omega arith in
      any_last xs (past - 1) d (omega arith) here (ap (λ z. list_any p (drop z xs)) e ∙ none) j ∙ ap (ltb j) (e ∙ sym f)

  -- none of the first elements passes, and they are all
  pub any_first_none : (xs : List X) (i : ℕ) → length xs ≤ i → list_any p (take i xs) ≡ false → (j : ℕ) → j ≤ length xs → list_any p (take j xs) ≡ ltb (length xs) j
  any_first_none xs i le none j within = any_take_none xs i j none (omega arith) ∙ sym (le-ltb (length xs) j within)
    where
      any_take_none : (xs : List X) (i j : ℕ) → list_any p (take i xs) ≡ false → j ≤ i → list_any p (take j xs) ≡ false
      any_take_none xs i zero none le = refl
      any_take_none [] i (suc j) none le = refl
      any_take_none (x ∷ xs) zero (suc j) none le = absurd (omega arith)
      any_take_none (x ∷ xs) (suc i) (suc j) none le =
          let parts = or_parts (p x) (list_any p (take i xs)) none in
          or_from _ _ parts.0 (any_take_none xs i j parts.1 (omega arith))
