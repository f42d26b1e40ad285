-- Pairs of positions that pass a transitive test are an order of the positions.
use Rattle.std.proofs.Common.{◌≡◌, ℕ, ◌<◌, Bool, true, false, not, ◌&&◌, ◌||◌, ltb, eqb, cond, List, [], ◌∷◌, filter, refl, sym, ap, ◌∙◌, inl, inr, arith}
use Rattle.std.specs.List.{list_any, list_all}
use Rattle.std.proofs.lemmas.Bool.{and_parts, and_from, or_left, or_right, or_cases, ltb-true, eqb-true, eq-eqb, cases_eq, ne_eqb}
use Rattle.std.proofs.lemmas.Map.Views.{any-filter_same}
use Rattle.bd_base.specs.Pairs.{is_before, total_order, is_closed}
use Rattle.bd_tree.specs.Order.{is_less, is_rising, is_within, is_order}
use Rattle.bd_tree.proofs.OrderLemmas.{all_weaker, turn_has, total_is_order}

module _ {X : Type 0} where
  all_if : (t : X → Bool) (b : Bool) (x : X) (ys : List X) → t x ≡ true → list_all t ys ≡ true → list_all t (cond b (x ∷ ys) ys) ≡ true
  all_if t true x ys e a = and_from _ _ e a
  all_if t false x ys e a = a

  -- what holds of all holds of those that are kept
  pub all_kept : (t u : X → Bool) (xs : List X) → list_all t xs ≡ true → list_all t (filter u xs) ≡ true
  all_kept t u [] a = refl
  all_kept t u (x ∷ xs) a = let p = and_parts (t x) (list_all t xs) a in all_if t (u x) x (filter u xs) p.0 (all_kept t u xs p.1)

  both_if : (t u : X → Bool) (b : Bool) (x : X) (ys : List X) → u x ≡ b → t x ≡ true → list_all (λ z. t z && u z) ys ≡ true → list_all (λ z. t z && u z) (cond b (x ∷ ys) ys) ≡ true
  both_if t u true x ys is e a = and_from _ _ (and_from _ _ e is) a
  both_if t u false x ys is e a = a

  pub both_kept : (t u : X → Bool) (xs : List X) → list_all t xs ≡ true → list_all (λ z. t z && u z) (filter u xs) ≡ true
  both_kept t u [] a = refl
  both_kept t u (x ∷ xs) a = let p = and_parts (t x) (list_all t xs) a in both_if t u (u x) x (filter u xs) refl p.0 (both_kept t u xs p.1)

  -- one that passes the first test passes the second too
  pub one_of : (t u : X → Bool) (xs : List X) → list_any t xs ≡ true → list_all u xs ≡ true → (x : X) × (t x ≡ true) × (u x ≡ true)
  one_of t u [] e a = absurd (cc)
  one_of t u (x ∷ xs) e a =
      let p = and_parts (u x) (list_all u xs) a in
      elim (or_cases (t x) (list_any t xs) e) [ inl here ↦ (x, here, p.0) | inr later ↦ one_of t u xs later p.1 ]

rising_if : (b : Bool) (p : ℕ × ℕ) (ps : List (ℕ × ℕ)) → list_all (is_less p) ps ≡ true → is_rising ps ≡ true → is_rising (cond b (p ∷ ps) ps) ≡ true
rising_if true p ps a r = and_from _ _ a r
rising_if false p ps a r = r

pub rising_kept : (u : ℕ × ℕ → Bool) (ps : List (ℕ × ℕ)) → is_rising ps ≡ true → is_rising (filter u ps) ≡ true
rising_kept u [] r = refl
rising_kept u (p ∷ ps) r = let parts = and_parts (list_all (is_less p) ps) (is_rising ps) r in rising_if (u p) p (filter u ps) (all_kept (is_less p) u ps parts.0) (rising_kept u ps parts.1)

-- a pair that passes is kept
pub before_kept : (f : ℕ → ℕ → Bool) (ps : List (ℕ × ℕ)) (a b : ℕ) → f a b ≡ true → is_before ps a b ≡ true → is_before (filter (λ p. f p.0 p.1) ps) a b ≡ true
before_kept f ps a b e h =
    any-filter_same (λ (p : ℕ × ℕ). eqb p.0 a && eqb p.1 b) (λ (p : ℕ × ℕ). f p.0 p.1) true
    (λ (p : ℕ × ℕ) t. let same = and_parts (eqb p.0 a) (eqb p.1 b) t in
    ap (λ z. f z p.1) (eqb-true p.0 a same.0) ∙ ap (λ z. f a z) (eqb-true p.1 b same.1) ∙ e) ps
    ∙ h

pub not_both_ways : (b : Bool) → not b ≡ true → b ≡ true → ⊥
not_both_ways true e f = cc
not_both_ways false e f = cc

module _ (order : List (ℕ × ℕ)) (closed : is_closed order ≡ true) where
  -- a closed order is transitive
  pub closed_at : (i j k : ℕ) → is_before order i j ≡ true → is_before order j k ≡ true → is_before order i k ≡ true
  closed_at i j k first second =
      let one = one_of (λ (p : ℕ × ℕ). eqb p.0 i && eqb p.1 j) (λ p. list_all (λ q. not (eqb p.1 q.0) || is_before order p.0 q.1) order) order first closed in
      let p = one.0 in
      let p_is = and_parts (eqb p.0 i) (eqb p.1 j) one.1 in
      let two = one_of (λ (q : ℕ × ℕ). eqb q.0 j && eqb q.1 k) (λ q. not (eqb p.1 q.0) || is_before order p.0 q.1) order second one.2 in
      let q = two.0 in
      let q_is = and_parts (eqb q.0 j) (eqb q.1 k) two.1 in
      let p0 : p.0 ≡ i = eqb-true p.0 i p_is.0 in
      let p1 : p.1 ≡ j = eqb-true p.1 j p_is.1 in
      let q0 : q.0 ≡ j = eqb-true q.0 j q_is.0 in
      let q1 : q.1 ≡ k = eqb-true q.1 k q_is.1 in
      let joined : is_before order p.0 q.1 ≡ true = elim (or_cases (not (eqb p.1 q.0)) (is_before order p.0 q.1) two.2) [
        | inl apart ↦ absurd (not_both_ways (eqb p.1 q.0) apart (eq-eqb p.1 q.0 (p1 ∙ sym q0)))
        | inr h ↦ h
      ] in
      ap (λ z. is_before order z k) (sym p0) ∙ ap (λ z. is_before order p.0 z) (sym q1) ∙ joined

-- a transitive test of rising pairs of n positions
module _ (n : ℕ) (f : ℕ → ℕ → Bool) (transitive : (i j k : ℕ) → i < j → j < k → f i j ≡ true → f j k ≡ true → f i k ≡ true) where
  abbrev passes : ℕ × ℕ → Bool
  passes p = f p.0 p.1

  abbrev kept : List (ℕ × ℕ)
  kept = filter passes (total_order n)

  abbrev is_good : ℕ × ℕ → Bool
  is_good p = is_within n p && passes p

  total_within : list_all (is_within n) (total_order n) ≡ true
  total_within = (and_parts _ _ (and_parts _ _ (total_is_order n)).0).0

  total_rises : is_rising (total_order n) ≡ true
  total_rises = (and_parts _ _ (and_parts _ _ (total_is_order n)).0).1

  all_good : list_all is_good kept ≡ true
  all_good = both_kept (is_within n) passes (total_order n) total_within

  joins : (p q : ℕ × ℕ) → is_good p ≡ true → is_good q ≡ true → (not (eqb p.1 q.0) || is_before kept p.0 q.1) ≡ true
  joins p q gp gq = elim (cases_eq p.1 q.0) [
    | inl e ↦
        let a = and_parts (is_within n p) (passes p) gp in
        let b = and_parts (is_within n q) (passes q) gq in
        let p_within = and_parts (ltb p.0 p.1) (ltb p.1 n) a.0 in
        let q_within = and_parts (ltb q.0 q.1) (ltb q.1 n) b.0 in
        let p_up : p.0 < p.1 = ltb-true _ _ p_within.0 in
        let q_up : q.0 < q.1 = ltb-true _ _ q_within.0 in
        let below : q.1 < n = ltb-true _ _ q_within.1 in
        let up : p.0 < q.1 = omega (arith, e) in
        let second : f p.1 q.1 ≡ true = ap (λ z. f z q.1) e ∙ b.1 in
        or_right _ _ (before_kept f (total_order n) p.0 q.1 (transitive p.0 p.1 q.1 p_up (omega (arith, e)) a.1 second) (turn_has 0 n p.0 q.1 (omega arith) up (omega (arith, below))))
    | inr ne ↦ or_left _ _ (ap not (ne_eqb p.1 q.0 ne))
  ]

  kept_closed : is_closed kept ≡ true
  kept_closed = all_weaker is_good (λ p. list_all (λ q. not (eqb p.1 q.0) || is_before kept p.0 q.1) kept) (λ p gp.
      all_weaker is_good (λ q. not (eqb p.1 q.0) || is_before kept p.0 q.1) (λ q gq. joins p q gp gq) kept all_good) kept all_good

  pub kept_is_order : is_order n kept ≡ true
  kept_is_order = and_from _ _ (and_from _ _ (all_kept (is_within n) passes (total_order n) total_within) (rising_kept passes (total_order n) total_rises)) kept_closed
