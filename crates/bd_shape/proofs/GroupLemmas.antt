-- The grouped block: its order is one, and what its kids have together.
use Rattle.std.proofs.Common.{◌≡◌, ℕ, ◌+◌, ◌<◌, ◌≤◌, Bool, true, false, not, ◌&&◌, ◌||◌, eqb, cond, List, [], ◌∷◌, ◌++◌, length, map, filter, Option, Some, None, slice_get, refl, sym, ap, ◌∙◌, subst, inl, inr, length-append, arith}
use Rattle.std.specs.List.{list_all, enumerate_from}
use Rattle.std.proofs.lemmas.Bool.{and_parts, and_from, or_left, or_right, or_cases}
use Rattle.std.proofs.lemmas.List.{length-map}
use Rattle.std.proofs.lemmas.List.Folds.{list_all-append}
use Rattle.bd_base.specs.Facts.{has}
use Rattle.bd_base.specs.Pairs.{is_before, is_closed}
use Rattle.bd_tree.specs.declared.node.Node.{Node, Block}
use Rattle.bd_tree.specs.Convex.{is_member, is_after_some, is_before_some, is_aside, are_convex}
use Rattle.bd_tree.specs.Order.{is_order}
use Rattle.bd_tree.specs.Tree.{id_of, depth_of, greatest, total}
use Rattle.bd_tree.specs.WellFormed.{has_orders}
use Rattle.bd_tree.proofs.BoundLemmas.{greatest-append}
use Rattle.bd_tree.proofs.NodeLemmas.{depth_of-Block, has_orders-Block, id_of-Block}
use Rattle.bd_tree.proofs.TreeLemmas.{has-append}
use Rattle.bd_shape.specs.Grouped.{is_front, is_back, fronts, backs, grouped_kids, grouped_places, is_ordered, are_ordered, grouped_order, grouped_block}
use Rattle.bd_shape.specs.Restricted.{members, restricted_order, restricted_block}
use Rattle.bd_shape.specs.declared.place.Place.{Place}
use Rattle.bd_shape.specs.declared.place.Place.TheVariants.{Outside, Group}
use Rattle.bd_shape.proofs.AroundLemmas.{AddsMore}
use Rattle.bd_shape.proofs.KidLemmas.{map-append}
use Rattle.bd_shape.proofs.OrderLemmas.{closed_at, kept_is_order}
use Rattle.bd_shape.proofs.PartLemmas.{nodes, positions, all_ordered, ordered-append, ordered_part, restricted_ordered, sums_parted, depth_part, parts_have, ids_numbered}
use Rattle.bd_shape.proofs.PlaceLemmas.{all_at, any_weaker}
use Rattle.bd_shape.proofs.TimesLemmas.{sums-append, sums-nodes, sums-numbered}

-- the new order is transitive
module _ (ids : List ℕ) (order : List (ℕ × ℕ)) (closed : is_closed order ≡ true) (all : List (ℕ × Node)) where
  abbrev after : ℕ → Bool
  after d = is_after_some order ids all d

  abbrev before : ℕ → Bool
  before d = is_before_some order ids all d

  pub after_on : (d e : ℕ) → after d ≡ true → is_before order d e ≡ true → after e ≡ true
  after_on d e a up = any_weaker (λ k. is_member ids k && is_before order k.0 d) (λ k. is_member ids k && is_before order k.0 e) (λ k t.
      let p = and_parts (is_member ids k) (is_before order k.0 d) t in
      and_from _ _ p.0 (closed_at order closed k.0 d e p.1 up)) all a

  before_on : (c d : ℕ) → is_before order c d ≡ true → before d ≡ true → before c ≡ true
  before_on c d up b = any_weaker (λ k. is_member ids k && is_before order d k.0) (λ k. is_member ids k && is_before order c k.0) (λ k t.
      let p = and_parts (is_member ids k) (is_before order d k.0) t in
      and_from _ _ p.0 (closed_at order closed c d k.0 up p.1)) all b

  abbrev joined : ℕ → ℕ → Bool
  joined c d = is_before order c d || before c && after d

  joined_on : (c d e : ℕ) → joined c d ≡ true → joined d e ≡ true → joined c e ≡ true
  joined_on c d e f g = elim (or_cases (is_before order c d) (before c && after d) f) [
    | inl up ↦ elim (or_cases (is_before order d e) (before d && after e) g) [
      | inl on ↦ or_left _ _ (closed_at order closed c d e up on)
      | inr through ↦ let p = and_parts (before d) (after e) through in or_right _ _ (and_from _ _ (before_on c d up p.0) p.1)
    ]
    | inr through ↦
        let p = and_parts (before c) (after d) through in
        elim (or_cases (is_before order d e) (before d && after e) g) [
          | inl on ↦ or_right _ _ (and_from _ _ p.0 (after_on d e p.1 on))
          | inr again ↦ or_right _ _ (and_from _ _ p.0 (and_parts (before d) (after e) again).1)
        ]
  ]

  joined_group : (c d : ℕ) → joined c d ≡ true → before d ≡ true → before c ≡ true
  joined_group c d f b = elim (or_cases (is_before order c d) (before c && after d) f) [
    | inl up ↦ before_on c d up b
    | inr through ↦ (and_parts (before c) (after d) through).0
  ]

  group_joined : (d e : ℕ) → after d ≡ true → joined d e ≡ true → after e ≡ true
  group_joined d e a f = elim (or_cases (is_before order d e) (before d && after e) f) [
    | inl up ↦ after_on d e a up
    | inr through ↦ (and_parts (before d) (after e) through).1
  ]

  -- what stands at a place isn't both after a member and before one
  abbrev is_clear : Place → Bool
  is_clear (Outside d) = not (after d && before d)
  is_clear Group = true

  not_both : (b : Bool) → not b ≡ true → b ≡ true → ⊥
  not_both true e f = cc
  not_both false e f = cc

  ordered_on : (a b c : Place) → is_clear b ≡ true → is_ordered ids order all a b ≡ true → is_ordered ids order all b c ≡ true → is_ordered ids order all a c ≡ true
  ordered_on (Outside c) (Outside d) (Outside e) h f g = joined_on c d e f g
  ordered_on (Outside c) (Outside d) Group h f g = joined_group c d f g
  ordered_on (Outside c) Group (Outside e) h f g = or_right _ _ (and_from _ _ f g)
  ordered_on (Outside c) Group Group h f g = absurd (cc)
  ordered_on Group (Outside d) (Outside e) h f g = group_joined d e f g
  ordered_on Group (Outside d) Group h f g = absurd (not_both (after d && before d) h (and_from _ _ f g))
  ordered_on Group Group c h f g = absurd (cc)

  are_ordered_on : (a b c : Option Place) → ((x : Place) → b ≡ Some x → is_clear x ≡ true) → are_ordered ids order all a b ≡ true → are_ordered ids order all b c ≡ true → are_ordered ids order all a c ≡ true
  are_ordered_on None b c h f g = absurd (cc)
  are_ordered_on (Some a) None c h f g = absurd (cc)
  are_ordered_on (Some a) (Some b) None h f g = absurd (cc)
  are_ordered_on (Some a) (Some b) (Some c) h f g = ordered_on a b c (h b refl) f g

  clear_outside : (ks : List (ℕ × Node)) → list_all (λ (k : ℕ × Node). not (after k.0 && before k.0)) ks ≡ true → list_all is_clear (map (λ (k : ℕ × Node). Outside k.0) ks) ≡ true
  clear_outside [] a = refl
  clear_outside (k ∷ ks) a = let p = and_parts _ _ a in and_from _ _ p.0 (clear_outside ks p.1)

  clear_front : (k : ℕ × Node) → is_front ids order all k ≡ true → not (after k.0 && before k.0) ≡ true
  clear_front k e = front_if (not (is_member ids k)) (after k.0) (before k.0) e
    where
      front_if : (m a b : Bool) → (m && not a) ≡ true → not (a && b) ≡ true
      front_if true true b e = absurd (cc)
      front_if true false b e = refl
      front_if false a b e = absurd (cc)

  pub clear_back : (k : ℕ × Node) → is_aside order ids all k ≡ true → is_back ids order all k ≡ true → not (after k.0 && before k.0) ≡ true
  clear_back k aside e = back_if (is_member ids k) (after k.0) (before k.0) aside e
    where
      back_if : (m a b : Bool) → (m || not (a && b)) ≡ true → (not m && a) ≡ true → not (a && b) ≡ true
      back_if true a b f e = absurd (cc)
      back_if false a b f e = f

  all_fronts : (ks : List (ℕ × Node)) → list_all (λ (k : ℕ × Node). not (after k.0 && before k.0)) (filter (is_front ids order all) ks) ≡ true
  all_fronts [] = refl
  all_fronts (k ∷ ks) = add_if (is_front ids order all k) refl (all_fronts ks)
    where
      add_if : (b : Bool) → is_front ids order all k ≡ b → list_all (λ (k : ℕ × Node). not (after k.0 && before k.0)) (filter (is_front ids order all) ks) ≡ true → list_all (λ (k : ℕ × Node). not (after k.0 && before k.0)) (cond b (k ∷ filter (is_front ids order all) ks) (filter (is_front ids order all) ks)) ≡ true
      add_if true e a = and_from _ _ (clear_front k e) a
      add_if false e a = a

  all_backs : (ks : List (ℕ × Node)) → list_all (is_aside order ids all) ks ≡ true → list_all (λ (k : ℕ × Node). not (after k.0 && before k.0)) (filter (is_back ids order all) ks) ≡ true
  all_backs [] h = refl
  all_backs (k ∷ ks) h = let p = and_parts (is_aside order ids all k) (list_all (is_aside order ids all) ks) h in add_if (is_back ids order all k) refl p.0 (all_backs ks p.1)
    where
      add_if : (b : Bool) → is_back ids order all k ≡ b → is_aside order ids all k ≡ true → list_all (λ (k : ℕ × Node). not (after k.0 && before k.0)) (filter (is_back ids order all) ks) ≡ true → list_all (λ (k : ℕ × Node). not (after k.0 && before k.0)) (cond b (k ∷ filter (is_back ids order all) ks) (filter (is_back ids order all) ks)) ≡ true
      add_if true e f a = and_from _ _ (clear_back k f e) a
      add_if false e f a = a

  all_clear : are_convex order ids all ≡ true → list_all is_clear (grouped_places ids order all) ≡ true
  all_clear convex =
      let fs : List Place = map (λ (k : ℕ × Node). Outside k.0) (fronts ids order all) in
      let bs : List Place = map (λ (k : ℕ × Node). Outside k.0) (backs ids order all) in
      let one : list_all is_clear fs ≡ true = clear_outside (fronts ids order all) (all_fronts all) in
      let two : list_all is_clear bs ≡ true = clear_outside (backs ids order all) (all_backs all convex) in
      list_all-append is_clear (fs ++ Group ∷ []) bs
      ∙ and_from _ _ (list_all-append is_clear fs (Group ∷ []) ∙ and_from _ _ one refl) two

  -- the new order is an order of the new positions
  pub grouped_is_order : are_convex order ids all ≡ true → is_order (length (grouped_places ids order all)) (grouped_order ids order all (grouped_places ids order all)) ≡ true
  grouped_is_order convex =
      let places = grouped_places ids order all in
      kept_is_order (length places) (λ i j. are_ordered ids order all (slice_get places i) (slice_get places j))
      (λ i j k up down e f. are_ordered_on (slice_get places i) (slice_get places j) (slice_get places k) (λ x at. all_at is_clear places j x (all_clear convex) at) e f)

module _ (ids : List ℕ) (fresh : ℕ) (order : List (ℕ × ℕ)) (kids : List Node) where
  abbrev all : List (ℕ × Node)
  all = enumerate_from 0 kids

  abbrev fs : List (ℕ × Node)
  fs = fronts ids order all

  abbrev bs : List (ℕ × Node)
  bs = backs ids order all

  abbrev ms : List (ℕ × Node)
  ms = members ids all

  abbrev block : Node
  block = restricted_block fresh order ms

  abbrev new_kids : List Node
  new_kids = grouped_kids ids fresh order all

  abbrev new_places : List Place
  new_places = grouped_places ids order all

  as_many : length new_kids ≡ length new_places
  as_many =
      let fp : List Place = map (λ (k : ℕ × Node). Outside k.0) fs in
      let bp : List Place = map (λ (k : ℕ × Node). Outside k.0) bs in
      let kids_one : length ((nodes fs ++ block ∷ []) ++ nodes bs) ≡ length (nodes fs ++ block ∷ []) + length (nodes bs) = length-append (nodes fs ++ block ∷ []) (nodes bs) in
      let kids_two : length (nodes fs ++ block ∷ []) ≡ length (nodes fs) + 1 = length-append (nodes fs) (block ∷ []) in
      let one : length ((fp ++ Group ∷ []) ++ bp) ≡ length (fp ++ Group ∷ []) + length bp = length-append (fp ++ Group ∷ []) bp in
      let two : length (fp ++ Group ∷ []) ≡ length fp + 1 = length-append fp (Group ∷ []) in
      let f_one : length (nodes fs) ≡ length fs = length-map fs (λ (k : ℕ × Node). k.1) in
      let f_two : length fp ≡ length fs = length-map fs (λ (k : ℕ × Node). Outside k.0) in
      let b_one : length (nodes bs) ≡ length bs = length-map bs (λ (k : ℕ × Node). k.1) in
      let b_two : length bp ≡ length bs = length-map bs (λ (k : ℕ × Node). Outside k.0) in
      let goal : length ((nodes fs ++ block ∷ []) ++ nodes bs) ≡ length ((fp ++ Group ∷ []) ++ bp) = omega (arith, kids_one, kids_two, one, two, f_one, f_two, b_one, b_two) in
      goal

  pub grouped_ordered : (own : ℕ) → are_convex order ids all ≡ true → has_orders (Block own kids order) ≡ true → has_orders (grouped_block own ids fresh kids order) ≡ true
  grouped_ordered own convex h =
      let parts = and_parts (all_ordered kids) (is_order (length (map has_orders kids)) order) (sym (has_orders-Block own kids order) ∙ h) in
      let closed : is_closed order ≡ true = (and_parts _ (is_closed order) parts.1).1 in
      let inside : has_orders block ≡ true = restricted_ordered fresh order closed ms (ordered_part (is_member ids) 0 kids parts.0) in
      has_orders-Block own new_kids (grouped_order ids order all new_places)
      ∙ and_from _ _
      (ordered-append (nodes fs ++ block ∷ []) (nodes bs)
      (ordered-append (nodes fs) (block ∷ []) (ordered_part (is_front ids order all) 0 kids parts.0) (and_from _ _ inside refl))
      (ordered_part (is_back ids order all) 0 kids parts.0))
      (ap (λ z. is_order z (grouped_order ids order all new_places)) (length-map new_kids has_orders ∙ as_many) ∙ grouped_is_order ids order closed all convex)

  -- the new kids have what the old ones have, and what the new block has by its id
  pub grouped_more : (c : ℕ → ℕ) (g : Node → ℕ) → AddsMore c g → total (map g new_kids) ≡ total (map g kids) + c fresh
  grouped_more c g adds =
      let part : total (map (λ (k : ℕ × Node). g k.1) fs) + total (map (λ (k : ℕ × Node). g k.1) bs) + total (map (λ (k : ℕ × Node). g k.1) ms) ≡ total (map (λ (k : ℕ × Node). g k.1) all) =
      sums_parted (λ (k : ℕ × Node). g k.1) (is_member ids) (λ (k : ℕ × Node). is_after_some order ids all k.0) all in
      let inside : g block ≡ c fresh + total (map g (nodes ms)) = adds fresh (nodes ms) (restricted_order order (positions ms)) in
      let one : total (map g ((nodes fs ++ block ∷ []) ++ nodes bs)) ≡ total (map g (nodes fs ++ block ∷ [])) + total (map g (nodes bs)) = sums-append g (nodes fs ++ block ∷ []) (nodes bs) in
      let two : total (map g (nodes fs ++ block ∷ [])) ≡ total (map g (nodes fs)) + (g block + 0) = sums-append g (nodes fs) (block ∷ []) in
      let goal : total (map g ((nodes fs ++ block ∷ []) ++ nodes bs)) ≡ total (map g kids) + c fresh =
      omega (arith, part, inside, one, two, sums-nodes g fs, sums-nodes g bs, sums-nodes g ms, sums-numbered g 0 kids) in
      goal

  -- the new kids are at most one level deeper
  pub grouped_deep : greatest (map depth_of new_kids) ≤ greatest (map depth_of kids) + 1
  grouped_deep =
      let one : greatest (map depth_of ((nodes fs ++ block ∷ []) ++ nodes bs)) ≡ Rattle.std.proofs.Common.max (greatest (map depth_of (nodes fs ++ block ∷ []))) (greatest (map depth_of (nodes bs))) =
      ap greatest (map-append depth_of (nodes fs ++ block ∷ []) (nodes bs)) ∙ greatest-append (map depth_of (nodes fs ++ block ∷ [])) (map depth_of (nodes bs)) in
      let two : greatest (map depth_of (nodes fs ++ block ∷ [])) ≡ Rattle.std.proofs.Common.max (greatest (map depth_of (nodes fs))) (Rattle.std.proofs.Common.max (depth_of block) 0) =
      ap greatest (map-append depth_of (nodes fs) (block ∷ [])) ∙ greatest-append (map depth_of (nodes fs)) (map depth_of (block ∷ [])) in
      let inside : depth_of block ≡ 1 + greatest (map depth_of (nodes ms)) = depth_of-Block fresh (nodes ms) (restricted_order order (positions ms)) in
      let f : greatest (map depth_of (nodes fs)) ≤ greatest (map depth_of kids) = depth_part (is_front ids order all) 0 kids in
      let b : greatest (map depth_of (nodes bs)) ≤ greatest (map depth_of kids) = depth_part (is_back ids order all) 0 kids in
      let m : greatest (map depth_of (nodes ms)) ≤ greatest (map depth_of kids) = depth_part (is_member ids) 0 kids in
      let goal : greatest (map depth_of ((nodes fs ++ block ∷ []) ++ nodes bs)) ≤ greatest (map depth_of kids) + 1 = omega (arith, one, two, inside, f, b, m) in
      goal

  mix : (x e y : Bool) → (x || (e || false) || y) ≡ (e || false || (x || y))
  mix true true y = refl
  mix true false y = refl
  mix false true y = refl
  mix false false y = refl

  -- which ids the new kids have
  pub grouped_has : (q : ℕ) → has (map id_of new_kids) q ≡ (has (fresh ∷ []) q || has (map id_of kids) q && not (has ids q))
  grouped_has q =
      ap (λ (z : List ℕ). has z q) (map-append id_of (nodes fs ++ block ∷ []) (nodes bs))
      ∙ has-append (map id_of (nodes fs ++ block ∷ [])) (map id_of (nodes bs)) q
      ∙ ap (λ (z : List ℕ). has z q || has (map id_of (nodes bs)) q) (map-append id_of (nodes fs) (block ∷ []))
      ∙ ap (λ z. z || has (map id_of (nodes bs)) q) (has-append (map id_of (nodes fs)) (id_of block ∷ []) q)
      ∙ ap (λ z. has (map id_of (nodes fs)) q || (eqb z q || false) || has (map id_of (nodes bs)) q) (id_of-Block fresh (nodes ms) (restricted_order order (positions ms)))
      ∙ mix (has (map id_of (nodes fs)) q) (eqb fresh q) (has (map id_of (nodes bs)) q)
      ∙ ap (λ z. eqb fresh q || false || z) (parts_have ids q (λ (k : ℕ × Node). is_after_some order ids all k.0) all ∙ ap (λ z. z && not (has ids q)) (ids_numbered ids q 0 kids))
