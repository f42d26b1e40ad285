-- Where a root has no misfit: exactly where it is well formed and at most 64 levels deep.
use Rattle.std.proofs.Common.{◌≡◌, ℕ, ◌<◌, ◌≤◌, Bool, true, false, not, ◌&&◌, ◌||◌, ltb, eqb, cond, List, [], ◌∷◌, length, map, Option, Some, None, refl, sym, ap, ◌∙◌, subst, ◌⊎◌, ◌↔◌, inl, inr, arith}
use Rattle.std.specs.List.{list_all, list_any, find}
use Rattle.std.specs.Option.{option_map}
use Rattle.std.proofs.lemmas.Bool.{and_parts, and_from, and_left, and_right, or_cases, or_left, or_right, or_parts, or_from, ltb-true, ltb-false, lt-ltb, le-ltb, eqb-true, eqb-false, eq-eqb, cases_eq, cases_Bool, cases_lt, ne_eqb, cond-true, cond-false, not-true, not_from_false, not_from_true, false_from_ne_true, true_from_ne_false, both_ways}
use Rattle.std.proofs.lemmas.List.{length-map}
use Rattle.bd_base.specs.Facts.{has}
use Rattle.bd_base.specs.Pairs.{is_before, total_order, is_closed}
use Rattle.bd_tree.specs.declared.misfit.Misfit.{Misfit}
use Rattle.bd_tree.specs.declared.misfit.Misfit.TheVariants.{Root, Twice, Order, TooDeep}
use Rattle.bd_tree.specs.declared.node.Node.{Node, Step, Block}
use Rattle.bd_tree.specs.declared.node.Node.TheOpen.{Node-F}
use Rattle.bd_tree.specs.declared.node.Node.TheViews.{rolls-Step, rolls-Block}
use Rattle.bd_tree.specs.declared.node.Node.TheFolds.{fold-roll-Node}
use Rattle.bd_tree.specs.Misfit.{first_repeat, stray_after, leads_to, is_gap, first_gap, order_misfit, disorder_step, first_disorder, first_misfit}
use Rattle.bd_tree.specs.Order.{is_less, is_rising, is_within, is_order}
use Rattle.bd_tree.specs.Tree.{first_some, ids_of, depth_of}
use Rattle.bd_tree.specs.WellFormed.{are_distinct, is_root, has_orders, IsWellFormed}
use Rattle.bd_tree.proofs.NodeLemmas.{Each, by_node, has_orders-Step, has_orders-Block}
use Rattle.bd_tree.proofs.OrderLemmas.{all_weaker, none_of, turn_has, total_is_order}

-- one pair is less than another
abbrev pub IsLess : ℕ × ℕ → ℕ × ℕ → Type 0
IsLess p q = (p.0 < q.0) ⊎ ((p.0 ≡ q.0) × (p.1 < q.1))

pub less_parts : (p q : ℕ × ℕ) → is_less p q ≡ true → IsLess p q
less_parts p q e = elim (or_cases _ _ e) [
  | inl up ↦ inl (ltb-true _ _ up)
  | inr same ↦ let parts = and_parts _ _ same in inr (eqb-true _ _ parts.0, ltb-true _ _ parts.1)
]

pub less_from : (p q : ℕ × ℕ) → IsLess p q → is_less p q ≡ true
less_from p q (inl up) = or_left _ _ (lt-ltb _ _ up)
less_from p q (inr same) = or_right _ _ (and_from _ _ (eq-eqb _ _ same.0) (lt-ltb _ _ same.1))

less_along : (p q r : ℕ × ℕ) → IsLess p q → IsLess q r → IsLess p r
less_along p q r (inl a) (inl b) = inl (omega arith)
less_along p q r (inl a) (inr b) = inl (omega (arith, b.0))
less_along p q r (inr a) (inl b) = inl (omega (arith, a.0))
less_along p q r (inr a) (inr b) = inr (a.0 ∙ b.0, omega (arith, a.1, b.1))

pub less_trans : (p q r : ℕ × ℕ) → is_less p q ≡ true → is_less q r ≡ true → is_less p r ≡ true
less_trans p q r a b = less_from p r (less_along p q r (less_parts p q a) (less_parts q r b))

module _ (n : ℕ) where
  -- where no pair strays, all are in range, and they rise
  pub stray_none : (b : ℕ × ℕ) (ps : List (ℕ × ℕ)) → stray_after n b ps ≡ None → (list_all (is_within n) ps ≡ true) × (list_all (is_less b) ps ≡ true) × (is_rising ps ≡ true)
  stray_none b [] e = (refl, refl, refl)
  stray_none b (p ∷ ps) e = elim (cases_Bool (is_within n p && is_less b p)) [
    | inl fits ↦
        let next : stray_after n p ps ≡ None = sym (cond-true _ _ _ fits) ∙ e in
        let parts = and_parts (is_within n p) (is_less b p) fits in
        let rest = stray_none p ps next in (
          and_from _ _ parts.0 rest.0,
          and_from _ _ parts.1 (all_weaker (is_less p) (is_less b) (λ q up. less_trans b p q parts.1 up) ps rest.1),
          and_from _ _ rest.1 rest.2,
        )
    | inr off ↦ let is : Some p ≡ None = sym (cond-false _ _ _ off) ∙ e in absurd (cc)
  ]

  none_strays : (b : ℕ × ℕ) (ps : List (ℕ × ℕ)) → list_all (is_within n) ps ≡ true → list_all (is_less b) ps ≡ true → is_rising ps ≡ true → stray_after n b ps ≡ None
  none_strays b [] w l r = refl
  none_strays b (p ∷ ps) w l r =
      let ws = and_parts (is_within n p) (list_all (is_within n) ps) w in
      let ls = and_parts (is_less b p) (list_all (is_less b) ps) l in
      let rs = and_parts (list_all (is_less p) ps) (is_rising ps) r in
      cond-true _ _ _ (and_from _ _ ws.0 ls.0) ∙ none_strays p ps ws.1 rs.0 rs.1

  above_zero : (p : ℕ × ℕ) → is_within n p ≡ true → is_less (0, 0) p ≡ true
  above_zero p w =
      let up : p.0 < p.1 = ltb-true _ _ (and_parts _ _ w).0 in
      less_from (0, 0) p (elim (cases_lt 0 p.0) [ inl lt ↦ inl lt | inr le ↦ inr (omega (arith, le), omega (arith, up)) ])

-- a test of two positions at the pairs of a list
module _ (t : ℕ → ℕ → Bool) where
  abbrev at_pair : ℕ × ℕ → Bool
  at_pair p = t p.0 p.1

  head_at : (p : ℕ × ℕ) (a b : ℕ) → (eqb p.0 a && eqb p.1 b) ≡ true → t p.0 p.1 ≡ t a b
  head_at p a b e =
      let parts = and_parts (eqb p.0 a) (eqb p.1 b) e in
      ap (λ z. t z p.1) (eqb-true p.0 a parts.0) ∙ ap (λ z. t a z) (eqb-true p.1 b parts.1)

  some_at : (ps : List (ℕ × ℕ)) (a b : ℕ) → is_before ps a b ≡ true → t a b ≡ true → list_any at_pair ps ≡ true
  some_at [] a b h e = absurd (cc)
  some_at (p ∷ ps) a b h e = elim (or_cases _ _ h) [
    | inl here ↦ or_left _ _ (head_at p a b here ∙ e)
    | inr there ↦ or_right _ _ (some_at ps a b there e)
  ]

  all_at : (ps : List (ℕ × ℕ)) (a b : ℕ) → is_before ps a b ≡ true → list_all at_pair ps ≡ true → t a b ≡ true
  all_at [] a b h e = absurd (cc)
  all_at (p ∷ ps) a b h e =
      let parts = and_parts (t p.0 p.1) (list_all at_pair ps) e in
      elim (or_cases _ _ h) [
        | inl here ↦ sym (head_at p a b here) ∙ parts.0
        | inr there ↦ all_at ps a b there parts.1
      ]

  all_from : (ps : List (ℕ × ℕ)) → ((a b : ℕ) → is_before ps a b ≡ true → t a b ≡ true) → list_all at_pair ps ≡ true
  all_from [] h = refl
  all_from (p ∷ ps) h = and_from _ _
      (h p.0 p.1 (or_left _ _ (and_from _ _ (eq-eqb p.0 p.0 refl) (eq-eqb p.1 p.1 refl))))
      (all_from ps (λ a b e. h a b (or_right _ _ e)))

  not_found : (ps : List (ℕ × ℕ)) (a b : ℕ) → is_before ps a b ≡ true → find at_pair ps ≡ None → t a b ≡ false
  not_found [] a b h e = absurd (cc)
  not_found (p ∷ ps) a b h e = elim (cases_Bool (t p.0 p.1)) [
    | inl yes_here ↦ let is : Some p ≡ None = sym (cond-true _ _ _ yes_here) ∙ e in absurd (cc)
    | inr not_here ↦ elim (or_cases _ _ h) [
      | inl here ↦ sym (head_at p a b here) ∙ not_here
      | inr there ↦ not_found ps a b there (sym (cond-false _ _ _ not_here) ∙ e)
    ]
  ]

  none_found : (ps : List (ℕ × ℕ)) → ((a b : ℕ) → t a b ≡ false) → find at_pair ps ≡ None
  none_found [] h = refl
  none_found (p ∷ ps) h = cond-false _ _ _ (h p.0 p.1) ∙ none_found ps h

module _ (order : List (ℕ × ℕ)) where
  abbrev gap_at : ℕ → ℕ → Bool
  gap_at a b = is_gap order (a, b)

  abbrev joins : ℕ × ℕ → ℕ × ℕ → Bool
  joins p q = not (eqb p.1 q.0) || is_before order p.0 q.1

  -- a closed order needs no further pair
  no_gap : is_closed order ≡ true → (a b : ℕ) → gap_at a b ≡ false
  no_gap closed a b = elim (cases_Bool (is_before order a b)) [
    | inl has_it ↦ and_left (not (is_before order a b)) (leads_to order (a, b)) (not_from_true _ has_it)
    | inr lacks ↦ and_right (not (is_before order a b)) (leads_to order (a, b))
        (none_of (λ p. list_all (joins p) order) (λ p. eqb p.0 a && is_before order p.1 b) (λ p all. false_from_ne_true _ (λ e.
        let parts = and_parts (eqb p.0 a) (is_before order p.1 b) e in
        both_ways _ (none_of (joins p) (λ q. eqb q.0 p.1 && eqb q.1 b) (λ q joined. false_from_ne_true _ (λ f. missing p q parts.0 joined f lacks)) order all) parts.1))
        order closed)
  ]
    where
      missing : (p q : ℕ × ℕ) → eqb p.0 a ≡ true → joins p q ≡ true → (eqb q.0 p.1 && eqb q.1 b) ≡ true → is_before order a b ≡ false → ⊥
      missing p q first joined at lacks =
          let parts = and_parts (eqb q.0 p.1) (eqb q.1 b) at in
          elim (or_cases _ _ joined) [
            | inl apart ↦ eqb-false p.1 q.0 (not-true _ apart) (sym (eqb-true _ _ parts.0))
            | inr has_it ↦ both_ways (is_before order a b) lacks
                (ap (λ z. is_before order z b) (sym (eqb-true _ _ first)) ∙ ap (λ z. is_before order p.0 z) (sym (eqb-true _ _ parts.1)) ∙ has_it)
          ]

  -- pairs in range that need no further pair are closed
  closed_from : (n : ℕ) → list_all (is_within n) order ≡ true → first_gap n order ≡ None → is_closed order ≡ true
  closed_from n within none = all_from (λ a b. list_all (joins (a, b)) order) order (λ a b ab.
      all_from (λ c d. joins (a, b) (c, d)) order (λ c d cd. elim (cases_eq b c) [
        | inr ne ↦ or_left _ _ (ap not (ne_eqb b c ne))
        | inl same ↦ or_right _ _ (true_from_ne_false _ (λ lacks.
            let first = and_parts (ltb a b) (ltb b n) (all_at (λ x y. is_within n (x, y)) order a b ab within) in
            let second = and_parts (ltb c d) (ltb d n) (all_at (λ x y. is_within n (x, y)) order c d cd within) in
            let up : a < b = ltb-true _ _ first.0 in
            let on : c < d = ltb-true _ _ second.0 in
            let below : d < n = ltb-true _ _ second.1 in
            let leads : leads_to order (a, d) ≡ true = some_at (λ x y. eqb x a && is_before order y d) order a b ab (and_from _ _ (eq-eqb a a refl) (subst (λ z. is_before order z d ≡ true) (sym same) cd)) in
            both_ways (gap_at a d)
            (not_found gap_at (total_order n) a d (turn_has 0 n a d (omega arith) (omega (arith, same)) (omega (arith, below))) none)
            (and_from _ _ (not_from_false _ lacks) leads)))
      ]))

module _ {A : Type 0} where
  pub firsts_none : (o : Option A) (os : List (Option A)) → first_some (o ∷ os) ≡ None → (o ≡ None) × (first_some os ≡ None)
  firsts_none None os e = (refl, e)
  firsts_none (Some x) os e = absurd (cc)

  pub none_first : (o : Option A) (os : List (Option A)) → o ≡ None → first_some os ≡ None → first_some (o ∷ os) ≡ None
  none_first None os e f = f
  none_first (Some x) os e f = absurd (cc)

  -- the first that is there is the one in front, or else that of the rest
  pub first_is : (o : Option A) (os : List (Option A)) (x : A) → o ≡ Some x → first_some (o ∷ os) ≡ Some x
  first_is None os x e = absurd (cc)
  first_is (Some y) os x e = e

  pub first_past : (o : Option A) (os : List (Option A)) → o ≡ None → first_some (o ∷ os) ≡ first_some os
  first_past None os e = refl
  first_past (Some y) os e = absurd (cc)

  pub map_none : {B : Type 0} (f : A → B) (o : Option A) → option_map f o ≡ None → o ≡ None
  map_none f None e = refl
  map_none f (Some x) e = absurd (cc)

-- a list of pairs tells no pair exactly where it is an order
pub order_from : (n : ℕ) (order : List (ℕ × ℕ)) → order_misfit n order ≡ None → is_order n order ≡ true
order_from n order e =
    let parts = firsts_none (stray_after n (0, 0) order) (first_gap n order ∷ []) e in
    let gap = firsts_none (first_gap n order) [] parts.1 in
    let good = stray_none n (0, 0) order parts.0 in
    and_from _ _ (and_from _ _ good.0 good.2) (closed_from order n good.0 gap.0)

pub order_fits : (n : ℕ) (order : List (ℕ × ℕ)) → is_order n order ≡ true → order_misfit n order ≡ None
order_fits n order o =
    let outer = and_parts (list_all (is_within n) order && is_rising order) (is_closed order) o in
    let inner = and_parts (list_all (is_within n) order) (is_rising order) outer.0 in
    none_first _ _
    (none_strays n (0, 0) order inner.0 (all_weaker (is_within n) (is_less (0, 0)) (above_zero n) order inner.0) inner.1)
    (none_first _ _ (none_found (gap_at order) (total_order n) (no_gap order outer.1)) refl)

pub total_fits : (n : ℕ) (order : List (ℕ × ℕ)) → order ≡ total_order n → order_misfit n order ≡ None
total_fits n order is = ap (order_misfit n) is ∙ order_fits n (total_order n) (total_is_order n)

pub first_disorder-Step : (id a : ℕ) → first_disorder (Step id a) ≡ None
first_disorder-Step id a = ap first_disorder (sym (rolls-Step id a)) ∙ fold-roll-Node (Option Misfit) disorder_step (Node-F.Step id a)

-- the misfit of a block's own order
abbrev pub own_disorder : ℕ → List Node → List (ℕ × ℕ) → Option Misfit
own_disorder id kids order = option_map (λ p. Order id p.0 p.1) (order_misfit (length kids) order)

pub first_disorder-Block : (id : ℕ) (kids : List Node) (order : List (ℕ × ℕ)) → first_disorder (Block id kids order) ≡ first_some (own_disorder id kids order ∷ map first_disorder kids)
first_disorder-Block id kids order =
    ap first_disorder (sym (rolls-Block id kids order))
    ∙ fold-roll-Node (Option Misfit) disorder_step (Node-F.Block id kids order)
    ∙ ap (λ z. first_some (option_map (λ p. Order id p.0 p.1) (order_misfit z order) ∷ map first_disorder kids)) (length-map kids first_disorder)

-- by what the node is
pub own_told : (n : Node) (id i j : ℕ) (kids : List Node) (order : List (ℕ × ℕ)) (count : ℕ) (o : Option (ℕ × ℕ)) → n ≡ Block id kids order → count ≡ length kids → o ≡ order_misfit count order → o ≡ Some (i, j) → Some (Order id i j) ≡ first_disorder n
own_told n id i j kids order count o is all e f = sym (
    ap first_disorder is ∙ first_disorder-Block id kids order
    ∙ first_is (own_disorder id kids order) (map first_disorder kids) (Order id i j) (ap (option_map (λ p. Order id p.0 p.1)) (ap (λ z. order_misfit z order) (sym all) ∙ sym e ∙ f)))

pub own_fits : (n : Node) (id : ℕ) (kids ks : List Node) (order : List (ℕ × ℕ)) (count : ℕ) (o : Option (ℕ × ℕ)) → n ≡ Block id kids order → ks ≡ kids → count ≡ length kids → o ≡ order_misfit count order → o ≡ None → first_some (map first_disorder ks) ≡ first_disorder n
own_fits n id kids ks order count o is same all e f = ap (λ z. first_some (map first_disorder z)) same ∙ sym (
    ap first_disorder is ∙ first_disorder-Block id kids order
    ∙ first_past (own_disorder id kids order) (map first_disorder kids) (ap (option_map (λ p. Order id p.0 p.1)) (ap (λ z. order_misfit z order) (sym all) ∙ sym e ∙ f)))

abbrev IsOrderly : Node → Type 0
IsOrderly n = (first_disorder n ≡ None → has_orders n ≡ true) × (has_orders n ≡ true → first_disorder n ≡ None)

kids_orderly : (kids : List Node) → Each IsOrderly kids → (first_some (map first_disorder kids) ≡ None → list_all (λ b. b) (map has_orders kids) ≡ true) × (list_all (λ b. b) (map has_orders kids) ≡ true → first_some (map first_disorder kids) ≡ None)
kids_orderly [] e = ((λ _. refl), (λ _. refl))
kids_orderly (k ∷ ks) e =
    let rest = kids_orderly ks e.1 in (
      (λ none. let parts = firsts_none (first_disorder k) (map first_disorder ks) none in and_from _ _ (e.0.0 parts.0) (rest.0 parts.1)),
      (λ all. let parts = and_parts (has_orders k) (list_all (λ b. b) (map has_orders ks)) all in none_first _ _ (e.0.1 parts.0) (rest.1 parts.1)),
    )

map_of_none : (id : ℕ) (o : Option (ℕ × ℕ)) → o ≡ None → option_map (λ p. Order id p.0 p.1) o ≡ None
map_of_none id None e = refl
map_of_none id (Some p) e = absurd (cc)

block_orderly : (id : ℕ) (kids : List Node) (order : List (ℕ × ℕ)) → Each IsOrderly kids → IsOrderly (Block id kids order)
block_orderly id kids order e =
    let rest = kids_orderly kids e in (
      (λ none.
          let parts = firsts_none (own_disorder id kids order) (map first_disorder kids) (sym (first_disorder-Block id kids order) ∙ none) in
          has_orders-Block id kids order ∙ and_from _ _ (rest.0 parts.1)
          (ap (λ z. is_order z order) (length-map kids has_orders) ∙ order_from (length kids) order (map_none _ _ parts.0))),
      (λ all.
          let parts = and_parts (list_all (λ b. b) (map has_orders kids)) (is_order (length (map has_orders kids)) order) (sym (has_orders-Block id kids order) ∙ all) in
          first_disorder-Block id kids order ∙ none_first _ _
          (map_of_none id _ (order_fits (length kids) order (ap (λ z. is_order z order) (sym (length-map kids has_orders)) ∙ parts.1)))
          (rest.1 parts.0)),
    )

-- no block tells a disorder exactly where each order is one
pub orderly : (n : Node) → IsOrderly n
orderly = by_node IsOrderly
    (λ id a. ((λ _. has_orders-Step id a), (λ _. first_disorder-Step id a)))
    block_orderly

-- none of a list is in the other
abbrev AreNew : List ℕ → List ℕ → Type 0
AreNew seen xs = list_all (λ x. not (has seen x)) xs ≡ true

repeat_none : (seen xs : List ℕ) → first_repeat seen xs ≡ None → AreNew seen xs × (are_distinct xs ≡ true)
repeat_none seen [] e = (refl, refl)
repeat_none seen (x ∷ xs) e = elim (cases_Bool (has seen x)) [
  | inl there ↦ let is : Some x ≡ None = sym (cond-true _ _ _ there) ∙ e in absurd (cc)
  | inr apart ↦
      let rest = repeat_none (x ∷ seen) xs (sym (cond-false _ _ _ apart) ∙ e) in (
        and_from _ _ (not_from_false _ apart) (all_weaker (λ y. not (has (x ∷ seen) y)) (λ y. not (has seen y)) (λ y f. not_from_false _ (or_parts (eqb x y) (has seen y) (not-true _ f)).1) xs rest.0),
        and_from _ _ (not_from_false _ (head_new x seen xs rest.0)) rest.1,
      )
]
  where
    head_new : (x : ℕ) (seen xs : List ℕ) → AreNew (x ∷ seen) xs → has xs x ≡ false
    head_new x seen [] a = refl
    head_new x seen (y ∷ ys) a =
        let parts = and_parts (not (has (x ∷ seen) y)) (list_all (λ z. not (has (x ∷ seen) z)) ys) a in
        let apart = (or_parts (eqb x y) (has seen y) (not-true _ parts.0)).0 in
        or_from _ _ (ne_eqb y x (λ same. eqb-false x y apart (sym same))) (head_new x seen ys parts.1)

none_repeats : (seen xs : List ℕ) → AreNew seen xs → are_distinct xs ≡ true → first_repeat seen xs ≡ None
none_repeats seen [] a d = refl
none_repeats seen (x ∷ xs) a d =
    let news = and_parts (not (has seen x)) (list_all (λ y. not (has seen y)) xs) a in
    let apart = and_parts (not (has xs x)) (are_distinct xs) d in
    cond-false _ _ _ (not-true _ news.0) ∙ none_repeats (x ∷ seen) xs (with_head x seen xs (not-true _ apart.0) news.1) apart.1
  where
    with_head : (x : ℕ) (seen xs : List ℕ) → has xs x ≡ false → AreNew seen xs → AreNew (x ∷ seen) xs
    with_head x seen [] h a = refl
    with_head x seen (y ∷ ys) h a =
        let off = or_parts (eqb y x) (has ys x) h in
        let news = and_parts (not (has seen y)) (list_all (λ z. not (has seen z)) ys) a in
        and_from _ _ (not_from_false _ (or_from _ _ (ne_eqb x y (λ same. eqb-false y x off.0 (sym same))) (not-true _ news.0))) (with_head x seen ys off.1 news.1)

nothing_new : (xs : List ℕ) → AreNew [] xs
nothing_new [] = refl
nothing_new (x ∷ xs) = nothing_new xs

unless_root : (b : Bool) → cond b None (Some Root) ≡ None → b ≡ true
unless_root true e = refl
unless_root false e = absurd (cc)

unless_deep : (b : Bool) (m : Misfit) → cond b (Some m) None ≡ None → b ≡ false
unless_deep true m e = absurd (cc)
unless_deep false m e = refl

-- a root has no misfit exactly where it is well formed and at most 64 levels deep
pub fits_from : (root : Node) → first_misfit root ≡ None → IsWellFormed root × (depth_of root ≤ 64)
fits_from root e =
    let rooted = firsts_none (cond (is_root root) None (Some Root)) _ e in
    let twice = firsts_none (option_map Twice (first_repeat [] (ids_of root))) _ rooted.1 in
    let order = firsts_none (first_disorder root) _ twice.1 in
    let deep = firsts_none (cond (ltb 64 (depth_of root)) (Some (TooDeep (depth_of root))) None) [] order.1 in (
      record {
        rooted = unless_root _ rooted.0;
        distinct = (repeat_none [] (ids_of root) (map_none _ _ twice.0)).1;
        orders = (orderly root).0 order.0;
      },
      ltb-false 64 (depth_of root) (unless_deep _ _ deep.0),
    )

map_twice : (o : Option ℕ) → o ≡ None → option_map Twice o ≡ None
map_twice None e = refl
map_twice (Some p) e = absurd (cc)

pub fits : (root : Node) → IsWellFormed root → depth_of root ≤ 64 → first_misfit root ≡ None
fits root w le =
    none_first _ _ (cond-true _ _ _ w.rooted)
    (none_first _ _ (map_twice _ (none_repeats [] (ids_of root) (nothing_new (ids_of root)) w.distinct))
    (none_first _ _ ((orderly root).1 w.orders)
    (none_first _ _ (cond-false _ _ _ (le-ltb 64 (depth_of root) le)) refl)))

pub exactly : (root : Node) → (first_misfit root ≡ None) ↔ (IsWellFormed root × (depth_of root ≤ 64))
exactly root = (fits_from root, (λ w. fits root w.0 w.1))
