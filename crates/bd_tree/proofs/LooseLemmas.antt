-- A root without one pair of its order, where nothing is between the two.
use Rattle.std.proofs.Common.{◌≡◌, ℕ, Bool, true, false, not, ◌&&◌, ◌||◌, eqb, cond, List, [], ◌∷◌, filter, map, length, refl, sym, ap, ◌∙◌, subst, inl, inr}
use Rattle.std.specs.List.{list_any, list_all}
use Rattle.std.proofs.lemmas.Bool.{and_parts, and_from, or_left, or_right, or_cases, both_ways, eqb-true, eq-eqb, cases_eq, ne_eqb, false_from_ne_true}
use Rattle.std.proofs.lemmas.Map.Views.{any-filter_same}
use Rattle.bd_base.specs.Pairs.{is_before, is_closed, without_pair}
use Rattle.bd_tree.specs.declared.node.Node.{Node, Step, Block}
use Rattle.bd_tree.specs.declared.node.Node.TheOpen.{Node-F}
use Rattle.bd_tree.specs.declared.node.Node.TheViews.{rolls-Step}
use Rattle.bd_tree.specs.declared.node.Node.TheFolds.{fold-roll-Node}
use Rattle.bd_tree.specs.Loose.{IsFree}
use Rattle.bd_tree.specs.Misfit.{leads_to}
use Rattle.bd_tree.specs.Order.{is_less, is_rising, is_within, is_order}
use Rattle.bd_tree.specs.Tree.{ids_of}
use Rattle.bd_tree.specs.WellFormed.{is_root, root_step, has_orders, are_distinct, IsWellFormed}
use Rattle.bd_tree.proofs.NodeLemmas.{by_node, ids_of-Block, is_root-Block, has_orders-Block}
use Rattle.bd_tree.proofs.OrderLemmas.{all_weaker}

module _ {X : Type 0} where
  all_if : (t : X → Bool) (b : Bool) (x : X) (ys : List X) → t x ≡ true → list_all t ys ≡ true → list_all t (cond b (x ∷ ys) ys) ≡ true
  all_if t true x ys e a = and_from _ _ e a
  all_if t false x ys e a = a

  -- what holds of all holds of those that are kept
  pub all_kept : (t u : X → Bool) (xs : List X) → list_all t xs ≡ true → list_all t (filter u xs) ≡ true
  all_kept t u [] a = refl
  all_kept t u (x ∷ xs) a = let p = and_parts (t x) (list_all t xs) a in all_if t (u x) x (filter u xs) p.0 (all_kept t u xs p.1)

  both_if : (t u : X → Bool) (b : Bool) (x : X) (ys : List X) → u x ≡ b → t x ≡ true → list_all (λ z. t z && u z) ys ≡ true → list_all (λ z. t z && u z) (cond b (x ∷ ys) ys) ≡ true
  both_if t u true x ys is e a = and_from _ _ (and_from _ _ e is) a
  both_if t u false x ys is e a = a

  pub both_kept : (t u : X → Bool) (xs : List X) → list_all t xs ≡ true → list_all (λ z. t z && u z) (filter u xs) ≡ true
  both_kept t u [] a = refl
  both_kept t u (x ∷ xs) a = let p = and_parts (t x) (list_all t xs) a in both_if t u (u x) x (filter u xs) refl p.0 (both_kept t u xs p.1)

  -- one that passes the first test passes the second too
  pub one_of : (t u : X → Bool) (xs : List X) → list_any t xs ≡ true → list_all u xs ≡ true → (x : X) × (t x ≡ true) × (u x ≡ true)
  one_of t u [] e a = absurd (cc)
  one_of t u (x ∷ xs) e a =
      let p = and_parts (u x) (list_all u xs) a in
      elim (or_cases (t x) (list_any t xs) e) [ inl here ↦ (x, here, p.0) | inr later ↦ one_of t u xs later p.1 ]

rising_if : (b : Bool) (p : ℕ × ℕ) (ps : List (ℕ × ℕ)) → list_all (is_less p) ps ≡ true → is_rising ps ≡ true → is_rising (cond b (p ∷ ps) ps) ≡ true
rising_if true p ps a r = and_from _ _ a r
rising_if false p ps a r = r

pub rising_kept : (u : ℕ × ℕ → Bool) (ps : List (ℕ × ℕ)) → is_rising ps ≡ true → is_rising (filter u ps) ≡ true
rising_kept u [] r = refl
rising_kept u (p ∷ ps) r = let parts = and_parts (list_all (is_less p) ps) (is_rising ps) r in rising_if (u p) p (filter u ps) (all_kept (is_less p) u ps parts.0) (rising_kept u ps parts.1)

-- a pair that passes is kept
pub before_kept : (f : ℕ → ℕ → Bool) (ps : List (ℕ × ℕ)) (a b : ℕ) → f a b ≡ true → is_before ps a b ≡ true → is_before (filter (λ p. f p.0 p.1) ps) a b ≡ true
before_kept f ps a b e h =
    any-filter_same (λ (p : ℕ × ℕ). eqb p.0 a && eqb p.1 b) (λ (p : ℕ × ℕ). f p.0 p.1) true
    (λ (p : ℕ × ℕ) t. let same = and_parts (eqb p.0 a) (eqb p.1 b) t in
    ap (λ z. f z p.1) (eqb-true p.0 a same.0) ∙ ap (λ z. f a z) (eqb-true p.1 b same.1) ∙ e) ps
    ∙ h

pub not_both_ways : (b : Bool) → not b ≡ true → b ≡ true → ⊥
not_both_ways true e f = cc
not_both_ways false e f = cc

module _ (order : List (ℕ × ℕ)) (closed : is_closed order ≡ true) where
  -- a closed order is transitive
  pub closed_at : (i j k : ℕ) → is_before order i j ≡ true → is_before order j k ≡ true → is_before order i k ≡ true
  closed_at i j k first second =
      let one = one_of (λ (p : ℕ × ℕ). eqb p.0 i && eqb p.1 j) (λ p. list_all (λ q. not (eqb p.1 q.0) || is_before order p.0 q.1) order) order first closed in
      let p = one.0 in
      let p_is = and_parts (eqb p.0 i) (eqb p.1 j) one.1 in
      let two = one_of (λ (q : ℕ × ℕ). eqb q.0 j && eqb q.1 k) (λ q. not (eqb p.1 q.0) || is_before order p.0 q.1) order second one.2 in
      let q = two.0 in
      let q_is = and_parts (eqb q.0 j) (eqb q.1 k) two.1 in
      let p0 : p.0 ≡ i = eqb-true p.0 i p_is.0 in
      let p1 : p.1 ≡ j = eqb-true p.1 j p_is.1 in
      let q0 : q.0 ≡ j = eqb-true q.0 j q_is.0 in
      let q1 : q.1 ≡ k = eqb-true q.1 k q_is.1 in
      let joined : is_before order p.0 q.1 ≡ true = elim (or_cases (not (eqb p.1 q.0)) (is_before order p.0 q.1) two.2) [
        | inl apart ↦ absurd (not_both_ways (eqb p.1 q.0) apart (eq-eqb p.1 q.0 (p1 ∙ sym q0)))
        | inr h ↦ h
      ] in
      ap (λ z. is_before order z k) (sym p0) ∙ ap (λ z. is_before order p.0 z) (sym q1) ∙ joined

each_in : (ps : List (ℕ × ℕ)) → list_all (λ p. is_before ps p.0 p.1) ps ≡ true
each_in [] = refl
each_in (p ∷ ps) = and_from _ _
    (or_left _ _ (and_from _ _ (eq-eqb p.0 p.0 refl) (eq-eqb p.1 p.1 refl)))
    (all_weaker (λ q. is_before ps q.0 q.1) (λ q. is_before (p ∷ ps) q.0 q.1) (λ q e. or_right _ _ e) ps (each_in ps))

module _ (n : ℕ) (order : List (ℕ × ℕ)) (a b : ℕ) (is : is_order n order ≡ true) (free : leads_to order (a, b) ≡ false) where
  abbrev stays : ℕ → ℕ → Bool
  stays x y = not (eqb x a && eqb y b)

  abbrev kept_pairs : List (ℕ × ℕ)
  kept_pairs = without_pair a b order

  order_parts : (list_all (is_within n) order && is_rising order ≡ true) × (is_closed order ≡ true)
  order_parts = and_parts _ _ is

  abbrev is_there : ℕ × ℕ → Bool
  is_there p = is_before order p.0 p.1 && stays p.0 p.1

  all_there : list_all is_there kept_pairs ≡ true
  all_there = both_kept (λ p. is_before order p.0 p.1) (λ p. stays p.0 p.1) order (each_in order)

  has_leading : (x y : ℕ) → is_before order a x ≡ true → is_before order x b ≡ true → leads_to order (a, b) ≡ true
  has_leading x y up down = go order up
    where
      go : (ps : List (ℕ × ℕ)) → is_before ps a x ≡ true → list_any (λ q. eqb q.0 a && is_before order q.1 b) ps ≡ true
      go [] e = e
      go (p ∷ ps) e = elim (or_cases (eqb p.0 a && eqb p.1 x) (is_before ps a x) e) [
        | inl here ↦ let t = and_parts (eqb p.0 a) (eqb p.1 x) here in or_left _ _ (and_from _ _ t.0 (ap (λ z. is_before order z b) (eqb-true p.1 x t.1) ∙ down))
        | inr later ↦ or_right _ _ (go ps later)
      ]

  joined : (p q : ℕ × ℕ) → is_there p ≡ true → is_there q ≡ true → (not (eqb p.1 q.0) || is_before kept_pairs p.0 q.1) ≡ true
  joined p q gp gq = elim (cases_eq p.1 q.0) [
    | inl e ↦
        let x = and_parts (is_before order p.0 p.1) (stays p.0 p.1) gp in
        let y = and_parts (is_before order q.0 q.1) (stays q.0 q.1) gq in
        let second : is_before order p.1 q.1 ≡ true = ap (λ z. is_before order z q.1) e ∙ y.0 in
        or_right _ _ (before_kept stays order p.0 q.1
        (ap not (false_from_ne_true _ (λ t.
        let s = and_parts (eqb p.0 a) (eqb q.1 b) t in
        both_ways _ free (has_leading p.1 p.1 (ap (λ z. is_before order z p.1) (sym (eqb-true p.0 a s.0)) ∙ x.0) (ap (is_before order p.1) (sym (eqb-true q.1 b s.1)) ∙ second)))))
        (closed_at order order_parts.1 p.0 p.1 q.1 x.0 second))
    | inr ne ↦ or_left _ _ (ap not (ne_eqb p.1 q.0 ne))
  ]

  pub loose_is_order : is_order n kept_pairs ≡ true
  loose_is_order = and_from _ _
      (and_from _ _ (all_kept (is_within n) (λ p. stays p.0 p.1) order (and_parts _ _ order_parts.0).0) (rising_kept (λ p. stays p.0 p.1) order (and_parts _ _ order_parts.0).1))
      (all_weaker is_there (λ p. list_all (λ q. not (eqb p.1 q.0) || is_before kept_pairs p.0 q.1) kept_pairs) (λ p gp.
      all_weaker is_there (λ q. not (eqb p.1 q.0) || is_before kept_pairs p.0 q.1) (λ q gq. joined p q gp gq) kept_pairs all_there) kept_pairs all_there)

is_root-Step : (id a : ℕ) → is_root (Step id a) ≡ false
is_root-Step id a = ap is_root (sym (rolls-Step id a)) ∙ fold-roll-Node Bool root_step (Node-F.Step id a)

-- a root is a block
pub record IsBlockOf (node : Node) : Type 0 where
  pub id : ℕ
  pub kids : List Node
  pub order : List (ℕ × ℕ)
  pub is : node ≡ Block id kids order

pub root_block : (n : Node) → is_root n ≡ true → IsBlockOf n
root_block = by_node (λ n. is_root n ≡ true → IsBlockOf n)
    (λ id a e. absurd (both_ways _ (is_root-Step id a) e))
    (λ id kids order each e. record { id = id; kids = kids; order = order; is = refl })

-- a well formed root without the pair is well formed
pub loose_well_formed : (old new : Node) (i j : ℕ) → IsWellFormed old → IsFree old i j → ((id : ℕ) (kids : List Node) (order : List (ℕ × ℕ)) → old ≡ Block id kids order → new ≡ Block id kids (without_pair i j order)) → IsWellFormed new
loose_well_formed old new i j well free makes =
    let b = root_block old well.rooted in
    let made : Block b.id b.kids (without_pair i j b.order) ≡ new = sym (makes b.id b.kids b.order b.is) in
    let parts = and_parts (list_all (λ k. k) (map has_orders b.kids)) _ (sym (has_orders-Block b.id b.kids b.order) ∙ ap has_orders (sym b.is) ∙ well.orders) in
    subst IsWellFormed made (record {
      rooted = is_root-Block b.id b.kids (without_pair i j b.order) ∙ sym (is_root-Block b.id b.kids b.order) ∙ ap is_root (sym b.is) ∙ well.rooted;
      distinct = ap are_distinct (ids_of-Block b.id b.kids (without_pair i j b.order) ∙ sym (ids_of-Block b.id b.kids b.order) ∙ ap ids_of (sym b.is)) ∙ well.distinct;
      orders = has_orders-Block b.id b.kids (without_pair i j b.order) ∙ and_from _ _ parts.0 (loose_is_order (length (map has_orders b.kids)) b.order i j parts.1 (free b.id b.kids b.order b.is));
    })
