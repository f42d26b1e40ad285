-- Without the pair of two kids with nothing between them, an order is one still; and what an unordered tree keeps.
use Rattle.std.proofs.Common.{◌≡◌, ℕ, ◌+◌, ◌<◌, Bool, true, false, not, ◌&&◌, ◌||◌, ltb, eqb, List, [], ◌∷◌, ◌++◌, length, map, Option, slice_get, refl, sym, ap, ◌∙◌, inl, inr, arith}
use Rattle.std.specs.List.{list_all, enumerate_from}
use Rattle.std.specs.Option.{option_map_or}
use Rattle.std.proofs.lemmas.Bool.{and_parts, and_from, or_left, or_right, ltb-true, eqb-true, eq-eqb, cases_eq, ne_eqb}
use Rattle.std.proofs.lemmas.List.{length-map}
use Rattle.bd_base.specs.Pairs.{is_before, is_closed}
use Rattle.bd_tree.specs.declared.node.Node.{Node, Block}
use Rattle.bd_tree.specs.declared.node.Node.TheOpen.{Node-F}
use Rattle.bd_tree.specs.declared.node.Node.TheViews.{outs-Block}
use Rattle.bd_tree.specs.Convex.{is_member}
use Rattle.bd_tree.specs.Order.{is_rising, is_within, is_order}
use Rattle.bd_tree.specs.Tree.{id_of, ids_of, depth_of, nodes_of, listed_of}
use Rattle.bd_tree.specs.WellFormed.{is_root, has_orders, are_distinct, IsWellFormed}
use Rattle.bd_tree.proofs.NodeLemmas.{depth_of-Block, ids_of-Block, listed_of-Block, nodes_of-Block, is_root-Block, has_orders-Block}
use Rattle.bd_tree.proofs.OrderLemmas.{all_weaker}
use Rattle.bd_shape.specs.Hull.{is_between, between_in_layer, has_between}
use Rattle.bd_shape.specs.Kids.{kids_at}
use Rattle.bd_shape.specs.Measures.{AddUpAlike}
use Rattle.bd_shape.specs.Unordered.{CanUnorder, stands_at, unordered_pairs, unordered_block, unordered}
use Rattle.bd_shape.proofs.AroundLemmas.{AddsMore, more_around, orders_around, root_around, same_depth_around, ids_around, listed_around}
use Rattle.bd_shape.proofs.KidLemmas.{IsThere, is_there, kids_found, Finds, finds_here, finds_around}
use Rattle.bd_shape.proofs.OrderLemmas.{all_kept, both_kept, rising_kept, before_kept, closed_at}
use Rattle.bd_shape.proofs.PlaceLemmas.{at_place, any_at, some_passes, each_is_before}
use Rattle.bd_shape.proofs.RemadeLemmas.{changes}
use Rattle.bd_shape.proofs.TimesLemmas.{times_once}

is_or_not : (b : Bool) → (b ≡ true → ⊥) → not b ≡ true
is_or_not true h = absurd (h refl)
is_or_not false h = refl

module _ (i j : ℕ) (kids : List Node) (order : List (ℕ × ℕ)) where
  abbrev stays : ℕ → ℕ → Bool
  stays a b = not (stands_at kids i a && stands_at kids j b)

  abbrev kept : List (ℕ × ℕ)
  kept = unordered_pairs i j kids order

  -- where kid i is before a position and that is before kid j, the position is between them
  found_between : (block a k b : ℕ) → k < length kids → stands_at kids i a ≡ true → stands_at kids j b ≡ true → is_before order a k ≡ true → is_before order k b ≡ true → between_in_layer i j (Node-F.Block block kids order) ≡ true
  found_between block a k b below first second up down =
      let one = some_passes (λ (kid : Node). eqb (id_of kid) i) (slice_get kids a) first in
      let two = some_passes (λ (kid : Node). eqb (id_of kid) j) (slice_get kids b) second in
      let here = at_place kids k below in
      let one_is : eqb i (id_of one.0) ≡ true = eq-eqb i (id_of one.0) (sym (eqb-true (id_of one.0) i one.2)) in
      let two_is : eqb j (id_of two.0) ≡ true = eq-eqb j (id_of two.0) (sym (eqb-true (id_of two.0) j two.2)) in
      any_at (λ (m : ℕ × Node). is_between order i j (enumerate_from 0 kids) m.0) kids k here.0 here.1
      (and_from _ _
      (any_at (λ (m : ℕ × Node). is_member (i ∷ []) m && is_before order m.0 k) kids a one.0 one.1 (and_from _ _ (or_left _ _ one_is) up))
      (any_at (λ (m : ℕ × Node). is_member (j ∷ []) m && is_before order k m.0) kids b two.0 two.1 (and_from _ _ (or_left _ _ two_is) down)))

  module _ (block : ℕ) (free : between_in_layer i j (Node-F.Block block kids order) ≡ false) (is : is_order (length kids) order ≡ true) where
    abbrev in_range : ℕ × ℕ → Bool
    in_range p = is_within (length kids) p && is_before order p.0 p.1

    abbrev is_good : ℕ × ℕ → Bool
    is_good p = in_range p && stays p.0 p.1

    parts : (list_all (is_within (length kids)) order && is_rising order ≡ true) × (is_closed order ≡ true)
    parts = and_parts _ _ is

    both_all : (ps : List (ℕ × ℕ)) → list_all (is_within (length kids)) ps ≡ true → list_all (λ p. is_before order p.0 p.1) ps ≡ true → list_all in_range ps ≡ true
    both_all [] a b = refl
    both_all (p ∷ ps) a b =
        let x = and_parts (is_within (length kids) p) (list_all (is_within (length kids)) ps) a in
        let y = and_parts (is_before order p.0 p.1) (list_all (λ p. is_before order p.0 p.1) ps) b in
        and_from _ _ (and_from _ _ x.0 y.0) (both_all ps x.1 y.1)

    all_good : list_all is_good kept ≡ true
    all_good = both_kept in_range (λ p. stays p.0 p.1) order (both_all order (and_parts _ _ parts.0).0 (each_is_before order))

    joins : (p q : ℕ × ℕ) → is_good p ≡ true → is_good q ≡ true → (not (eqb p.1 q.0) || is_before kept p.0 q.1) ≡ true
    joins p q gp gq = elim (cases_eq p.1 q.0) [
      | inl e ↦
          let a = and_parts (in_range p) (stays p.0 p.1) gp in
          let b = and_parts (in_range q) (stays q.0 q.1) gq in
          let a_in = and_parts (is_within (length kids) p) (is_before order p.0 p.1) a.0 in
          let b_in = and_parts (is_within (length kids) q) (is_before order q.0 q.1) b.0 in
          let below : p.1 < length kids = ltb-true _ _ (and_parts (ltb p.0 p.1) (ltb p.1 (length kids)) a_in.0).1 in
          let second : is_before order p.1 q.1 ≡ true = ap (λ z. is_before order z q.1) e ∙ b_in.1 in
          let joined : is_before order p.0 q.1 ≡ true = closed_at order parts.1 p.0 p.1 q.1 a_in.1 second in
          let stay : stays p.0 q.1 ≡ true = is_or_not (stands_at kids i p.0 && stands_at kids j q.1) (λ t.
          let at = and_parts (stands_at kids i p.0) (stands_at kids j q.1) t in
          let clash : true ≡ false = sym (found_between block p.0 p.1 q.1 below at.0 at.1 a_in.1 second) ∙ free in
          cc) in
          or_right _ _ (before_kept stays order p.0 q.1 stay joined)
      | inr ne ↦ or_left _ _ (ap not (ne_eqb p.1 q.0 ne))
    ]

    kept_closed : is_closed kept ≡ true
    kept_closed = all_weaker is_good (λ p. list_all (λ q. not (eqb p.1 q.0) || is_before kept p.0 q.1) kept) (λ p gp.
        all_weaker is_good (λ q. not (eqb p.1 q.0) || is_before kept p.0 q.1) (λ q gq. joins p q gp gq) kept all_good) kept all_good

    pub unordered_is_order : is_order (length kids) kept ≡ true
    unordered_is_order = and_from _ _ (and_from _ _ (all_kept (is_within (length kids)) (λ p. stays p.0 p.1) order (and_parts _ _ parts.0).0) (rising_kept (λ p. stays p.0 p.1) order (and_parts _ _ parts.0).1)) kept_closed

module _ (root : Node) (block i j : ℕ) (well : IsWellFormed root) (can : CanUnorder root block i j) where
  there : IsThere block root
  there = is_there block root i can.first

  abbrev kids : List Node
  kids = there.kids

  abbrev order : List (ℕ × ℕ)
  order = there.order

  abbrev pairs : List (ℕ × ℕ)
  pairs = unordered_pairs i j kids order

  free : between_in_layer i j (Node-F.Block block kids order) ≡ false
  free =
      sym (ap (between_in_layer i j) (outs-Block block kids order))
      ∙ sym (ap (λ (o : Option Node). option_map_or (λ (node : Node). has_between node i j) o false) there.found)
      ∙ can.free

  abbrev tree : Node
  tree = unordered root block i j

  module _ (P : Node → Node → Type 0) (here : P (Block block kids order) (Block block kids pairs))
      (around : (own : ℕ) (before : List Node) (k new : Node) (after : List Node) (o : List (ℕ × ℕ)) → P k new → P (Block own (before ++ k ∷ after) o) (Block own (before ++ new ∷ after) o)) where
    changed : P root tree
    changed = changes block (unordered_block block i j) P kids order here (λ own before k new after o ne none. around own before k new after o) root (times_once block (ids_of root) well.distinct) there.found

  more_alike : (c : ℕ → ℕ) (g : Node → ℕ) → AddsMore c g → g tree ≡ g root
  more_alike c g adds =
      let e : g tree ≡ g root + 0 = changed (λ old new. g new ≡ g old + 0) (omega (arith, adds block kids order, adds block kids pairs)) (λ own before k new after o e. more_around own before k new after o c g adds 0 e) in
      omega arith

  pub unordered_measures : AddUpAlike root tree
  unordered_measures g adds = more_alike (λ id. 0) g (λ id kids order. let e = adds id kids order in omega arith)

  pub unordered_nodes : nodes_of tree ≡ nodes_of root
  unordered_nodes = more_alike (λ id. 1) nodes_of nodes_of-Block

  pub unordered_ids : ids_of tree ≡ ids_of root
  unordered_ids = changed (λ old new. ids_of new ≡ ids_of old) (ids_of-Block block kids pairs ∙ sym (ids_of-Block block kids order)) (λ own before k new after o e. ids_around own before k new after o e)

  pub unordered_listed : listed_of tree ≡ listed_of root
  unordered_listed = changed (λ old new. listed_of new ≡ listed_of old) (listed_of-Block block kids pairs ∙ sym (listed_of-Block block kids order)) (λ own before k new after o e. listed_around own before k new after o e)

  pub unordered_depth : depth_of tree ≡ depth_of root
  unordered_depth = changed (λ old new. depth_of new ≡ depth_of old) (depth_of-Block block kids pairs ∙ sym (depth_of-Block block kids order)) (λ own before k new after o e. same_depth_around own before k new after o e)

  pub unordered_kids : kids_at block tree ≡ kids_at block root
  unordered_kids =
      kids_found block tree block kids pairs (changes block (unordered_block block i j) (Finds block kids pairs) kids order (finds_here block kids pairs (Block block kids order)) (finds_around block kids pairs) root (times_once block (ids_of root) well.distinct) there.found)
      ∙ sym (kids_found block root block kids order there.found)

  ordered_here : has_orders (Block block kids order) ≡ true → has_orders (Block block kids pairs) ≡ true
  ordered_here e =
      let parts = and_parts (list_all (λ b. b) (map has_orders kids)) (is_order (length (map has_orders kids)) order) (sym (has_orders-Block block kids order) ∙ e) in
      let many : length (map has_orders kids) ≡ length kids = length-map kids has_orders in
      has_orders-Block block kids pairs
      ∙ and_from _ _ parts.0 (ap (λ z. is_order z pairs) many ∙ unordered_is_order i j kids order block free (ap (λ z. is_order z order) (sym many) ∙ parts.1))

  pub unordered_well_formed : IsWellFormed tree
  unordered_well_formed = record {
    rooted = changed (λ old new. is_root new ≡ is_root old) (is_root-Block block kids pairs ∙ sym (is_root-Block block kids order)) (λ own before k new after o e. root_around own before k new after o) ∙ well.rooted;
    distinct = ap are_distinct unordered_ids ∙ well.distinct;
    orders = changed (λ old new. has_orders old ≡ true → has_orders new ≡ true) ordered_here (λ own before k new after o e. orders_around own before k new after o e) well.orders;
  }
