-- What a grouped tree keeps, and that it is well formed.
use Rattle.std.proofs.Common.{◌≡◌, ℕ, ◌+◌, ◌<◌, ◌≤◌, Bool, true, false, not, ◌&&◌, ◌||◌, eqb, List, [], ◌∷◌, ◌++◌, length, map, Option, Some, None, refl, sym, ap, ◌∙◌, inl, inr, arith}
use Rattle.std.specs.List.{enumerate_from}
use Rattle.std.specs.Option.{option_map_or}
use Rattle.std.proofs.lemmas.Bool.{and_parts, cond-true, cond-false, eq-eqb, eqb-true, cases_eq, ne_eqb}
use Rattle.bd_base.specs.Facts.{has, is_subset}
use Rattle.bd_tree.specs.declared.node.Node.{Node, Step, Block}
use Rattle.bd_tree.specs.declared.node.Node.TheViews.{outs-Block}
use Rattle.bd_tree.specs.Convex.{is_convex_in, convex_in_layer, are_convex}
use Rattle.bd_tree.specs.Tree.{ids_of, depth_of, find_in, first_some, nodes_of, greatest}
use Rattle.bd_tree.specs.WellFormed.{is_root, has_orders, IsWellFormed}
use Rattle.bd_tree.proofs.NodeLemmas.{Each, by_node, depth_of-Block, nodes_of-Block, is_root-Block, has_orders-Block}
use Rattle.bd_tree.proofs.TreeLemmas.{find_in-Step, find_in-Block}
use Rattle.bd_tree.specs.Order.{is_order}
use Rattle.bd_shape.proofs.ExactLemmas.{grouped_exact}
use Rattle.std.specs.List.{list_all}
use Rattle.std.proofs.lemmas.List.{length-map}
use Rattle.bd_shape.specs.Grouped.{CanGroup, HasSide, OrdersAsTold, grouped_kids, grouped_places, grouped_order, grouped_block, grouped, ids_taken, count_taken}
use Rattle.bd_shape.specs.Kids.{kids_at}
use Rattle.bd_shape.specs.Measures.{AddUpAlike}
use Rattle.bd_shape.specs.Remade.{remade}
use Rattle.bd_shape.proofs.AroundLemmas.{AddsMore, more_around, orders_around, root_around, depth_around}
use Rattle.bd_shape.proofs.GroupLemmas.{grouped_ordered, grouped_more, grouped_deep, grouped_has}
use Rattle.bd_shape.proofs.KidLemmas.{IsThere, is_there, kids_found, Finds, finds_here, finds_around}
use Rattle.bd_shape.proofs.RemadeLemmas.{changes}
use Rattle.bd_shape.proofs.TimesLemmas.{one_if, times, times_in, times_in-Block, times_none, times_some, times_once, times_above, distinct_if, greatest_below}

first_own : (ids own : List ℕ) → 0 < length ids → is_subset ids own ≡ true → (q : ℕ) × (has own q ≡ true)
first_own [] own lt e = absurd (omega arith)
first_own (i ∷ ids) own lt e = (i, (and_parts (has own i) (is_subset ids own) e).0)

-- the tree in which the kids with these ids are one block, with any number of ids
module _ (root : Node) (block : ℕ) (ids : List ℕ) (fresh : ℕ) (well : IsWellFormed root) (can : CanGroup root block ids) where
  there : IsThere block root
  there = let one = first_own ids (kids_at block root) can.some can.own in is_there block root one.0 one.1

  abbrev kids : List Node
  kids = there.kids

  abbrev order : List (ℕ × ℕ)
  order = there.order

  abbrev new_kids : List Node
  new_kids = grouped_kids ids fresh order (enumerate_from 0 kids)

  abbrev new_order : List (ℕ × ℕ)
  new_order = grouped_order ids order (enumerate_from 0 kids) (grouped_places ids order (enumerate_from 0 kids))

  abbrev tree : Node
  tree = remade root block (grouped_block block ids fresh)

  convex : are_convex order ids (enumerate_from 0 kids) ≡ true
  convex =
      sym (ap (convex_in_layer ids) (outs-Block block kids order))
      ∙ sym (ap (λ (o : Option Node). option_map_or (λ (node : Node). is_convex_in node ids) o true) there.found)
      ∙ can.convex

  once : times_in block root ≤ 1
  once = times_once block (ids_of root) well.distinct

  module _ (P : Node → Node → Type 0) (here : P (Block block kids order) (Block block new_kids new_order))
      (around : (own : ℕ) (before : List Node) (k new : Node) (after : List Node) (o : List (ℕ × ℕ)) → P k new → P (Block own (before ++ k ∷ after) o) (Block own (before ++ new ∷ after) o)) where
    changed : P root tree
    changed = changes block (grouped_block block ids fresh) P kids order here (λ own before k new after o ne none. around own before k new after o) root once there.found

  pub one_more : (c : ℕ → ℕ) (g : Node → ℕ) → AddsMore c g → g tree ≡ g root + c fresh
  one_more c g adds = changed (λ old new. g new ≡ g old + c fresh)
      (omega (arith, adds block kids order, adds block new_kids new_order, grouped_more ids fresh order kids c g adds))
      (λ own before k new after o e. more_around own before k new after o c g adds (c fresh) e)

  pub one_deeper : depth_of tree ≤ depth_of root + 1
  one_deeper = changed (λ old new. depth_of new ≤ depth_of old + 1)
      (omega (arith, depth_of-Block block kids order, depth_of-Block block new_kids new_order, grouped_deep ids fresh order kids))
      (λ own before k new after o e. depth_around own before k new after o 1 e)

  pub new_kids_are : (q : ℕ) → has (kids_at block tree) q ≡ (has (fresh ∷ []) q || has (kids_at block root) q && not (has ids q))
  new_kids_are q =
      ap (λ (z : List ℕ). has z q) (kids_found block tree block new_kids new_order
      (changes block (grouped_block block ids fresh) (Finds block new_kids new_order) kids order (finds_here block new_kids new_order (Block block kids order)) (finds_around block new_kids new_order) root once there.found))
      ∙ grouped_has ids fresh order kids q
      ∙ ap (λ (z : List ℕ). has (fresh ∷ []) q || has z q && not (has ids q)) (sym (kids_found block root block kids order there.found))

  -- how often a number is among the ids
  pub times_more : (q : ℕ) → times q (ids_of tree) ≡ times q (ids_of root) + one_if (eqb fresh q)
  times_more q = one_more (λ id. one_if (eqb id q)) (times_in q) (times_in-Block q)

  module _ (above : greatest (ids_of root) < fresh) where
    once_each : (q : ℕ) → times q (ids_of tree) ≤ 1
    once_each q = elim (cases_eq fresh q) [
      | inl e ↦ omega (arith, times_more q, times_above q (ids_of root) (omega (arith, e)), ap one_if (eq-eqb fresh q e))
      | inr ne ↦ omega (arith, times_more q, times_once q (ids_of root) well.distinct, ap one_if (ne_eqb fresh q ne))
    ]

    pub grouped_top : greatest (ids_of tree) < fresh + 1
    grouped_top = greatest_below (fresh + 1) (ids_of tree) (omega arith) (λ q le. omega (arith, times_more q, times_above q (ids_of root) (omega arith), ap one_if (ne_eqb fresh q (omega arith))))

    pub grouped_well_formed : IsWellFormed tree
    grouped_well_formed = record {
      rooted = changed (λ old new. is_root new ≡ is_root old) (is_root-Block block new_kids new_order ∙ sym (is_root-Block block kids order)) (λ own before k new after o e. root_around own before k new after o) ∙ well.rooted;
      distinct = distinct_if (ids_of tree) once_each;
      orders = changed (λ old new. has_orders old ≡ true → has_orders new ≡ true) (λ h. grouped_ordered ids fresh order kids block convex h) (λ own before k new after o e. orders_around own before k new after o e) well.orders;
    }

  has_more : (b : Bool) (n m : ℕ) (h k : Bool) → (h ≡ false → n ≡ 0) → (h ≡ true → 1 ≤ n) → (k ≡ true → 1 ≤ m) → (k ≡ false → m ≡ 0) → m ≡ n + one_if b → k ≡ (h || (b || false))
  has_more true n m true true f g i j e = refl
  has_more true n m true false f g i j e = absurd (omega (arith, j refl))
  has_more true n m false true f g i j e = refl
  has_more true n m false false f g i j e = absurd (omega (arith, j refl))
  has_more false n m true true f g i j e = refl
  has_more false n m true false f g i j e = absurd (omega (arith, j refl, g refl))
  has_more false n m false true f g i j e = absurd (omega (arith, i refl, f refl))
  has_more false n m false false f g i j e = refl

  pub grouped_ids : (q : ℕ) → has (ids_of tree) q ≡ (has (ids_of root) q || has (fresh ∷ []) q)
  grouped_ids q = has_more (eqb fresh q) (times q (ids_of root)) (times q (ids_of tree)) (has (ids_of root) q) (has (ids_of tree) q)
      (times_none q (ids_of root)) (times_some q (ids_of root)) (times_some q (ids_of tree)) (times_none q (ids_of tree)) (times_more q)

or_false : (a : Bool) → a ≡ (a || false)
or_false true = refl
or_false false = refl

-- by the number of ids
module _ (root : Node) (block fresh : ℕ) (well : IsWellFormed root) where
  pub measures : (ids : List ℕ) → CanGroup root block ids → AddUpAlike root (grouped root block ids fresh)
  measures [] can g adds = refl
  measures (i ∷ []) can g adds = refl
  measures (i ∷ j ∷ more) can g adds =
      let e : g (grouped root block (i ∷ j ∷ more) fresh) ≡ g root + 0 = one_more root block (i ∷ j ∷ more) fresh well can (λ id. 0) g (λ id kids order. let a = adds id kids order in omega arith) in
      omega arith

  pub nodes : (ids : List ℕ) → CanGroup root block ids → nodes_of (grouped root block ids fresh) ≡ nodes_of root + count_taken ids
  nodes [] can = omega arith
  nodes (i ∷ []) can = omega arith
  nodes (i ∷ j ∷ more) can = one_more root block (i ∷ j ∷ more) fresh well can (λ id. 1) nodes_of nodes_of-Block

  pub ids_are : (ids : List ℕ) → CanGroup root block ids → (q : ℕ) → has (ids_of (grouped root block ids fresh)) q ≡ (has (ids_of root) q || has (ids_taken ids fresh) q)
  ids_are [] can q = or_false (has (ids_of root) q)
  ids_are (i ∷ []) can q = or_false (has (ids_of root) q)
  ids_are (i ∷ j ∷ more) can q = grouped_ids root block (i ∷ j ∷ more) fresh well can q

  pub top : (ids : List ℕ) → CanGroup root block ids → greatest (ids_of root) < fresh → greatest (ids_of (grouped root block ids fresh)) < fresh + count_taken ids
  top [] can above = omega arith
  top (i ∷ []) can above = omega arith
  top (i ∷ j ∷ more) can above = grouped_top root block (i ∷ j ∷ more) fresh well can above

  pub depth : (ids : List ℕ) → CanGroup root block ids → depth_of (grouped root block ids fresh) ≤ depth_of root + count_taken ids
  depth [] can = omega arith
  depth (i ∷ []) can = omega arith
  depth (i ∷ j ∷ more) can = one_deeper root block (i ∷ j ∷ more) fresh well can

  one_side : (e h : Bool) → (e ≡ true → h ≡ true) → h ≡ ((e || false) || h && not (e || false))
  one_side true true f = refl
  one_side true false f = absurd (let t : false ≡ true = f refl in cc)
  one_side false true f = refl
  one_side false false f = refl

  pub side : (ids : List ℕ) → CanGroup root block ids → HasSide root block ids fresh (grouped root block ids fresh)
  side [] can q = absurd (let lt = can.some in omega arith)
  side (i ∷ []) can q = one_side (eqb i q) (has (kids_at block root) q) (λ e. ap (has (kids_at block root)) (sym (eqb-true i q e)) ∙ (and_parts (has (kids_at block root) i) true can.own).0)
  side (i ∷ j ∷ more) can q = new_kids_are root block (i ∷ j ∷ more) fresh well can q

  -- a single kid, or none
  pub few_ids : (ids : List ℕ) → length ids < 2 → root ≡ grouped root block ids fresh
  few_ids [] lt = refl
  few_ids (i ∷ []) lt = refl
  few_ids (i ∷ j ∷ more) lt = absurd (omega arith)

  pub more_ids : (ids : List ℕ) → 2 ≤ length ids → remade root block (grouped_block block ids fresh) ≡ grouped root block ids fresh
  more_ids [] le = absurd (omega arith)
  more_ids (i ∷ []) le = absurd (omega arith)
  more_ids (i ∷ j ∷ more) le = refl

-- a block that is found in a well formed tree has an order
module _ (id : ℕ) where
  abbrev all_have : List Node → Bool
  all_have ns = list_all (λ b. b) (map has_orders ns)

  abbrev KeepsOrders : Node → Type 0
  KeepsOrders n = has_orders n ≡ true → (m : Node) → find_in id n ≡ Some m → has_orders m ≡ true

  found_step : (own a : ℕ) → KeepsOrders (Step own a)
  found_step own a h m e = elim (cases_eq own id) [
    | inl same ↦
        let is : Some (Step own a) ≡ Some m = sym (find_in-Step id own a ∙ cond-true _ _ _ (eq-eqb own id same)) ∙ e in
        let node : Step own a ≡ m = cc in
        ap has_orders (sym node) ∙ h
    | inr ne ↦
        let is : None ≡ Some m = sym (find_in-Step id own a ∙ cond-false _ _ _ (ne_eqb own id ne)) ∙ e in
        absurd (cc)
  ]

  found_first : (o : Option Node) (rest : List (Option Node)) → ((m : Node) → o ≡ Some m → has_orders m ≡ true) → ((m : Node) → first_some rest ≡ Some m → has_orders m ≡ true) → (m : Node) → first_some (o ∷ rest) ≡ Some m → has_orders m ≡ true
  found_first None rest h hs m e = hs m e
  found_first (Some n) rest h hs m e = h m e

  found_kids : (kids : List Node) → Each KeepsOrders kids → all_have kids ≡ true → (m : Node) → first_some (map (find_in id) kids) ≡ Some m → has_orders m ≡ true
  found_kids [] e h m is = absurd (cc)
  found_kids (k ∷ ks) e h m is =
      let parts = and_parts (has_orders k) (all_have ks) h in
      found_first (find_in id k) (map (find_in id) ks) (e.0 parts.0) (found_kids ks e.1 parts.1) m is

  found_block : (own : ℕ) (kids : List Node) (order : List (ℕ × ℕ)) → Each KeepsOrders kids → KeepsOrders (Block own kids order)
  found_block own kids order h e m found = elim (cases_eq own id) [
    | inl same ↦
        let is : Some (Block own kids order) ≡ Some m = sym (find_in-Block id own kids order ∙ cond-true _ _ _ (eq-eqb own id same)) ∙ found in
        let node : Block own kids order ≡ m = cc in
        ap has_orders (sym node) ∙ e
    | inr ne ↦
        let parts = and_parts (all_have kids) (is_order (length (map has_orders kids)) order) (sym (has_orders-Block own kids order) ∙ e) in
        found_kids kids h parts.0 m (sym (find_in-Block id own kids order ∙ cond-false _ _ _ (ne_eqb own id ne)) ∙ found)
  ]

  found_ordered : (n : Node) → KeepsOrders n
  found_ordered = by_node KeepsOrders found_step found_block

pub orders_as_told : (root : Node) (block : ℕ) (ids : List ℕ) → IsWellFormed root → CanGroup root block ids → OrdersAsTold root block ids
orders_as_told root block ids well can kids order found =
    let own_orders : has_orders (Block block kids order) ≡ true = found_ordered block root well.orders (Block block kids order) found in
    let parts = and_parts (list_all (λ b. b) (map has_orders kids)) (is_order (length (map has_orders kids)) order) (sym (has_orders-Block block kids order) ∙ own_orders) in
    let convex : are_convex order ids (enumerate_from 0 kids) ≡ true =
    sym (ap (convex_in_layer ids) (outs-Block block kids order))
    ∙ sym (ap (λ (o : Option Node). option_map_or (λ (node : Node). is_convex_in node ids) o true) found)
    ∙ can.convex in
    grouped_exact ids order kids (ap (λ z. is_order z order) (sym (length-map kids has_orders)) ∙ parts.1) convex
