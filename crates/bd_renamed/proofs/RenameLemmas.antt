-- Renaming and shapes: where different ids stay different, what is made of a renamed tree is what was made of the tree, renamed.
use Rattle.std.proofs.Common.{◌≡◌, ℕ, ◌+◌, Bool, true, false, not, ◌&&◌, ◌||◌, eqb, cond, List, [], ◌∷◌, ◌++◌, length, map, Option, Some, None, slice_get, refl, sym, ap, ◌∙◌}
use Rattle.std.specs.List.{list_any, list_all, filter, enumerate_from}
use Rattle.std.specs.Option.{option_map_or, option_map}
use Rattle.std.proofs.lemmas.List.{map-append}
use Rattle.std.proofs.lemmas.Option.{slice_get-map}
use Rattle.bd_base.specs.Facts.{has}
use Rattle.bd_base.specs.Pairs.{is_before, total_order}
use Rattle.bd_tree.specs.declared.node.Node.{Node, Step, Block}
use Rattle.bd_tree.specs.declared.node.Node.TheOpen.{Node-F}
use Rattle.bd_tree.specs.declared.node.Node.TheViews.{outs-Step, outs-Block, rolls-Step, rolls-Block}
use Rattle.bd_tree.specs.declared.node.Node.TheFolds.{fold-roll-Node}
use Rattle.bd_tree.specs.Convex.{is_member, is_after_some, is_before_some, is_aside, is_convex_in, are_convex, convex_in_layer}
use Rattle.bd_tree.specs.Tree.{id_of, find_in, first_some}
use Rattle.bd_tree.proofs.NodeLemmas.{Each, by_node, id_of-Step, id_of-Block}
use Rattle.bd_tree.proofs.TreeLemmas.{find_in-Step, find_in-Block}
use Rattle.bd_shape.specs.Grouped.{is_front, is_back, fronts, backs, grouped, grouped_block, grouped_kids, grouped_places, grouped_order, is_ordered, are_ordered, is_kept, side_id, count_taken}
use Rattle.bd_shape.specs.Hull.{between_at, has_between, is_between, between_in_layer}
use Rattle.bd_shape.specs.Kids.{convex_at}
use Rattle.bd_shape.specs.Remade.{remade}
use Rattle.bd_shape.specs.Restricted.{members, restricted_block, restricted_order}
use Rattle.bd_shape.specs.Tightened.{both_grouped, right_fresh, tightened}
use Rattle.bd_shape.specs.Unordered.{stands_at, unordered_pairs, unordered_block, unordered}
use Rattle.bd_shape.specs.declared.place.Place.{Place}
use Rattle.bd_shape.specs.declared.place.Place.TheVariants.{Outside, Group}
use Rattle.bd_shape.proofs.RemadeLemmas.{remade-Step, remade-Block}
use Rattle.bd_renamed.specs.Renamed.{renamed_step, renamed}

module _ (f : ℕ → ℕ) where
  pub renamed-Step : (id a : ℕ) → renamed f (Step id a) ≡ Step (f id) a
  renamed-Step id a = ap (renamed f) (sym (rolls-Step id a)) ∙ fold-roll-Node Node (renamed_step f) (Node-F.Step id a)

  pub renamed-Block : (id : ℕ) (kids : List Node) (order : List (ℕ × ℕ)) → renamed f (Block id kids order) ≡ Block (f id) (map (renamed f) kids) order
  renamed-Block id kids order = ap (renamed f) (sym (rolls-Block id kids order)) ∙ fold-roll-Node Node (renamed_step f) (Node-F.Block id kids order)

  pub id_renamed : (n : Node) → id_of (renamed f n) ≡ f (id_of n)
  id_renamed = by_node (λ n. id_of (renamed f n) ≡ f (id_of n))
      (λ id a. ap id_of (renamed-Step id a) ∙ id_of-Step (f id) a ∙ ap f (sym (id_of-Step id a)))
      (λ id kids order e. ap id_of (renamed-Block id kids order) ∙ id_of-Block (f id) (map (renamed f) kids) order ∙ ap f (sym (id_of-Block id kids order)))

filter_alike : {X : Type 0} (t u : X → Bool) → ((x : X) → t x ≡ u x) → (xs : List X) → filter t xs ≡ filter u xs
filter_alike t u h [] = refl
filter_alike t u h (x ∷ xs) = ap (λ b. cond b (x ∷ filter t xs) (filter t xs)) (h x) ∙ ap (λ z. cond (u x) (x ∷ z) z) (filter_alike t u h xs)

module _ (f : ℕ → ℕ) (apart : (x y : ℕ) → eqb (f x) (f y) ≡ eqb x y) where
  abbrev new : Node → Node
  new = renamed f

  abbrev new_kid : ℕ × Node → ℕ × Node
  new_kid k = (k.0, new k.1)

  has_new : (ids : List ℕ) (x : ℕ) → has (map f ids) (f x) ≡ has ids x
  has_new [] x = refl
  has_new (i ∷ ids) x = ap (λ b. b || has (map f ids) (f x)) (apart i x) ∙ ap (λ b. eqb i x || b) (has_new ids x)

  numbered : (m : ℕ) (kids : List Node) → enumerate_from m (map new kids) ≡ map new_kid (enumerate_from m kids)
  numbered m [] = refl
  numbered m (k ∷ ks) = ap (λ z. (m, new k) ∷ z) (numbered (m + 1) ks)

  member_new : (ids : List ℕ) (k : ℕ × Node) → is_member (map f ids) (new_kid k) ≡ is_member ids k
  member_new ids k = ap (has (map f ids)) (id_renamed f k.1) ∙ has_new ids (id_of k.1)

  module _ (t u : ℕ × Node → Bool) (h : (k : ℕ × Node) → t (new_kid k) ≡ u k) where
    any_new : (ks : List (ℕ × Node)) → list_any t (map new_kid ks) ≡ list_any u ks
    any_new [] = refl
    any_new (k ∷ ks) = ap (λ b. b || list_any t (map new_kid ks)) (h k) ∙ ap (λ b. u k || b) (any_new ks)

    all_new : (ks : List (ℕ × Node)) → list_all t (map new_kid ks) ≡ list_all u ks
    all_new [] = refl
    all_new (k ∷ ks) = ap (λ b. b && list_all t (map new_kid ks)) (h k) ∙ ap (λ b. u k && b) (all_new ks)

    chosen : (b : Bool) (k : ℕ × Node) (xs ys : List (ℕ × Node)) → xs ≡ map new_kid ys → cond b (new_kid k ∷ xs) xs ≡ map new_kid (cond b (k ∷ ys) ys)
    chosen true k xs ys e = ap (λ z. new_kid k ∷ z) e
    chosen false k xs ys e = e

    filter_new : (ks : List (ℕ × Node)) → filter t (map new_kid ks) ≡ map new_kid (filter u ks)
    filter_new [] = refl
    filter_new (k ∷ ks) =
        ap (λ b. cond b (new_kid k ∷ filter t (map new_kid ks)) (filter t (map new_kid ks))) (h k)
        ∙ chosen (u k) k (filter t (map new_kid ks)) (filter u ks) (filter_new ks)

  nodes_new : (ks : List (ℕ × Node)) → map (λ (k : ℕ × Node). k.1) (map new_kid ks) ≡ map new (map (λ (k : ℕ × Node). k.1) ks)
  nodes_new [] = refl
  nodes_new (k ∷ ks) = ap (λ z. new k.1 ∷ z) (nodes_new ks)

  places_new : (ks : List (ℕ × Node)) → map (λ (k : ℕ × Node). k.0) (map new_kid ks) ≡ map (λ (k : ℕ × Node). k.0) ks
  places_new [] = refl
  places_new (k ∷ ks) = ap (λ z. k.0 ∷ z) (places_new ks)

  outsides_new : (ks : List (ℕ × Node)) → map (λ (k : ℕ × Node). Outside k.0) (map new_kid ks) ≡ map (λ (k : ℕ × Node). Outside k.0) ks
  outsides_new [] = refl
  outsides_new (k ∷ ks) = ap (λ z. Outside k.0 ∷ z) (outsides_new ks)

  module _ (order : List (ℕ × ℕ)) (ids : List ℕ) where
    after_new : (ks : List (ℕ × Node)) (j : ℕ) → is_after_some order (map f ids) (map new_kid ks) j ≡ is_after_some order ids ks j
    after_new ks j = any_new (λ k. is_member (map f ids) k && is_before order k.0 j) (λ k. is_member ids k && is_before order k.0 j) (λ k. ap (λ b. b && is_before order k.0 j) (member_new ids k)) ks

    before_new : (ks : List (ℕ × Node)) (j : ℕ) → is_before_some order (map f ids) (map new_kid ks) j ≡ is_before_some order ids ks j
    before_new ks j = any_new (λ k. is_member (map f ids) k && is_before order j k.0) (λ k. is_member ids k && is_before order j k.0) (λ k. ap (λ b. b && is_before order j k.0) (member_new ids k)) ks

    aside_new : (ks : List (ℕ × Node)) (k : ℕ × Node) → is_aside order (map f ids) (map new_kid ks) (new_kid k) ≡ is_aside order ids ks k
    aside_new ks k =
        ap (λ b. b || not (is_after_some order (map f ids) (map new_kid ks) k.0 && is_before_some order (map f ids) (map new_kid ks) k.0)) (member_new ids k)
        ∙ ap (λ b. is_member ids k || not (b && is_before_some order (map f ids) (map new_kid ks) k.0)) (after_new ks k.0)
        ∙ ap (λ b. is_member ids k || not (is_after_some order ids ks k.0 && b)) (before_new ks k.0)

    convex_new : (ks : List (ℕ × Node)) → are_convex order (map f ids) (map new_kid ks) ≡ are_convex order ids ks
    convex_new ks = all_new (is_aside order (map f ids) (map new_kid ks)) (is_aside order ids ks) (aside_new ks) ks

    front_new : (ks : List (ℕ × Node)) (k : ℕ × Node) → is_front (map f ids) order (map new_kid ks) (new_kid k) ≡ is_front ids order ks k
    front_new ks k =
        ap (λ b. not b && not (is_after_some order (map f ids) (map new_kid ks) k.0)) (member_new ids k)
        ∙ ap (λ b. not (is_member ids k) && not b) (after_new ks k.0)

    back_new : (ks : List (ℕ × Node)) (k : ℕ × Node) → is_back (map f ids) order (map new_kid ks) (new_kid k) ≡ is_back ids order ks k
    back_new ks k =
        ap (λ b. not b && is_after_some order (map f ids) (map new_kid ks) k.0) (member_new ids k)
        ∙ ap (λ b. not (is_member ids k) && b) (after_new ks k.0)

    fronts_new : (ks : List (ℕ × Node)) → fronts (map f ids) order (map new_kid ks) ≡ map new_kid (fronts ids order ks)
    fronts_new ks = filter_new (is_front (map f ids) order (map new_kid ks)) (is_front ids order ks) (front_new ks) ks

    backs_new : (ks : List (ℕ × Node)) → backs (map f ids) order (map new_kid ks) ≡ map new_kid (backs ids order ks)
    backs_new ks = filter_new (is_back (map f ids) order (map new_kid ks)) (is_back ids order ks) (back_new ks) ks

    members_new : (ks : List (ℕ × Node)) → members (map f ids) (map new_kid ks) ≡ map new_kid (members ids ks)
    members_new ks = filter_new (is_member (map f ids)) (is_member ids) (member_new ids) ks

    restricted_new : (fresh : ℕ) (ks : List (ℕ × Node)) → new (restricted_block fresh order ks) ≡ restricted_block (f fresh) order (map new_kid ks)
    restricted_new fresh ks =
        renamed-Block f fresh (map (λ (k : ℕ × Node). k.1) ks) (restricted_order order (map (λ (k : ℕ × Node). k.0) ks))
        ∙ ap (λ z. Block (f fresh) z (restricted_order order (map (λ (k : ℕ × Node). k.0) ks))) (sym (nodes_new ks))
        ∙ ap (λ z. Block (f fresh) (map (λ (k : ℕ × Node). k.1) (map new_kid ks)) (restricted_order order z)) (sym (places_new ks))

    kids_new : (fresh : ℕ) (ks : List (ℕ × Node)) → map new (grouped_kids ids fresh order ks) ≡ grouped_kids (map f ids) (f fresh) order (map new_kid ks)
    kids_new fresh ks =
        map-append new (map (λ (k : ℕ × Node). k.1) (fronts ids order ks) ++ restricted_block fresh order (members ids ks) ∷ []) (map (λ (k : ℕ × Node). k.1) (backs ids order ks))
        ∙ ap (λ z. z ++ map new (map (λ (k : ℕ × Node). k.1) (backs ids order ks))) (map-append new (map (λ (k : ℕ × Node). k.1) (fronts ids order ks)) (restricted_block fresh order (members ids ks) ∷ []))
        ∙ ap (λ z. (z ++ new (restricted_block fresh order (members ids ks)) ∷ []) ++ map new (map (λ (k : ℕ × Node). k.1) (backs ids order ks))) (sym (nodes_new (fronts ids order ks)) ∙ ap (map (λ (k : ℕ × Node). k.1)) (sym (fronts_new ks)))
        ∙ ap (λ z. (map (λ (k : ℕ × Node). k.1) (fronts (map f ids) order (map new_kid ks)) ++ z ∷ []) ++ map new (map (λ (k : ℕ × Node). k.1) (backs ids order ks)))
        (restricted_new fresh (members ids ks) ∙ ap (restricted_block (f fresh) order) (sym (members_new ks)))
        ∙ ap (λ z. (map (λ (k : ℕ × Node). k.1) (fronts (map f ids) order (map new_kid ks)) ++ restricted_block (f fresh) order (members (map f ids) (map new_kid ks)) ∷ []) ++ z)
        (sym (nodes_new (backs ids order ks)) ∙ ap (map (λ (k : ℕ × Node). k.1)) (sym (backs_new ks)))

    listing_new : (ks : List (ℕ × Node)) → grouped_places (map f ids) order (map new_kid ks) ≡ grouped_places ids order ks
    listing_new ks =
        ap (λ z. (map (λ (k : ℕ × Node). Outside k.0) z ++ Group ∷ []) ++ map (λ (k : ℕ × Node). Outside k.0) (backs (map f ids) order (map new_kid ks))) (fronts_new ks)
        ∙ ap (λ z. (map (λ (k : ℕ × Node). Outside k.0) (map new_kid (fronts ids order ks)) ++ Group ∷ []) ++ map (λ (k : ℕ × Node). Outside k.0) z) (backs_new ks)
        ∙ ap (λ z. (z ++ Group ∷ []) ++ map (λ (k : ℕ × Node). Outside k.0) (map new_kid (backs ids order ks))) (outsides_new (fronts ids order ks))
        ∙ ap (λ z. (map (λ (k : ℕ × Node). Outside k.0) (fronts ids order ks) ++ Group ∷ []) ++ z) (outsides_new (backs ids order ks))

    ordered_new : (ks : List (ℕ × Node)) (a b : Place) → is_ordered (map f ids) order (map new_kid ks) a b ≡ is_ordered ids order ks a b
    ordered_new ks (Outside c) (Outside d) =
        ap (λ z. is_before order c d || z && is_after_some order (map f ids) (map new_kid ks) d) (before_new ks c)
        ∙ ap (λ z. is_before order c d || is_before_some order ids ks c && z) (after_new ks d)
    ordered_new ks (Outside c) Group = before_new ks c
    ordered_new ks Group (Outside d) = after_new ks d
    ordered_new ks Group Group = refl

    both_ordered_new : (ks : List (ℕ × Node)) (a b : Option Place) → are_ordered (map f ids) order (map new_kid ks) a b ≡ are_ordered ids order ks a b
    both_ordered_new ks None b = refl
    both_ordered_new ks (Some a) None = refl
    both_ordered_new ks (Some a) (Some b) = ordered_new ks a b

    order_new : (ks : List (ℕ × Node)) (places : List Place) → grouped_order (map f ids) order (map new_kid ks) places ≡ grouped_order ids order ks places
    order_new ks places =
        filter_alike (is_kept (map f ids) order (map new_kid ks) places) (is_kept ids order ks places) (λ p. both_ordered_new ks (slice_get places p.0) (slice_get places p.1)) (total_order (length places))

  block_new : (own : ℕ) (ids : List ℕ) (fresh : ℕ) (kids : List Node) (order : List (ℕ × ℕ)) → new (grouped_block own ids fresh kids order) ≡ grouped_block (f own) (map f ids) (f fresh) (map new kids) order
  block_new own ids fresh kids order =
      let ks = enumerate_from 0 kids in
      renamed-Block f own (grouped_kids ids fresh order ks) (grouped_order ids order ks (grouped_places ids order ks))
      ∙ ap (λ z. Block (f own) z (grouped_order ids order ks (grouped_places ids order ks))) (kids_new order ids fresh ks)
      ∙ ap (λ z. Block (f own) (grouped_kids (map f ids) (f fresh) order (map new_kid ks)) z)
      (sym (order_new order ids ks (grouped_places ids order ks)) ∙ ap (grouped_order (map f ids) order (map new_kid ks)) (sym (listing_new order ids ks)))
      ∙ ap (λ z. Block (f own) (grouped_kids (map f ids) (f fresh) order z) (grouped_order (map f ids) order z (grouped_places (map f ids) order z))) (sym (numbered 0 kids))

  module _ (block : ℕ) (make made : List Node → List (ℕ × ℕ) → Node) (h : (kids : List Node) (order : List (ℕ × ℕ)) → new (make kids order) ≡ made (map new kids) order) where
    abbrev RemadeAlike : Node → Type 0
    RemadeAlike n = new (remade n block make) ≡ remade (new n) (f block) made

    kids_remade : (kids : List Node) → Each RemadeAlike kids → map new (map (λ k. remade k block make) kids) ≡ map (λ k. remade k (f block) made) (map new kids)
    kids_remade [] e = refl
    kids_remade (k ∷ ks) e = ap (λ z. z ∷ map new (map (λ k. remade k block make) ks)) e.0 ∙ ap (λ z. remade (new k) (f block) made ∷ z) (kids_remade ks e.1)

    by_id : (b : Bool) (own : ℕ) (kids : List Node) (order : List (ℕ × ℕ)) → map new (map (λ k. remade k block make) kids) ≡ map (λ k. remade k (f block) made) (map new kids) →
        new (cond b (make kids order) (Block own (map (λ k. remade k block make) kids) order)) ≡ cond b (made (map new kids) order) (Block (f own) (map (λ k. remade k (f block) made) (map new kids)) order)
    by_id true own kids order e = h kids order
    by_id false own kids order e = renamed-Block f own (map (λ k. remade k block make) kids) order ∙ ap (λ z. Block (f own) z order) e

    remade_new : (n : Node) → RemadeAlike n
    remade_new = by_node RemadeAlike
        (λ own a. ap new (remade-Step block make own a) ∙ renamed-Step f own a ∙ sym (remade-Step (f block) made (f own) a) ∙ ap (λ n. remade n (f block) made) (sym (renamed-Step f own a)))
        (λ own kids order e.
        ap new (remade-Block block make own kids order)
        ∙ by_id (eqb own block) own kids order (kids_remade kids e)
        ∙ ap (λ b. cond b (made (map new kids) order) (Block (f own) (map (λ k. remade k (f block) made) (map new kids)) order)) (sym (apart own block))
        ∙ sym (remade-Block (f block) made (f own) (map new kids) order)
        ∙ ap (λ n. remade n (f block) made) (sym (renamed-Block f own kids order)))

  grouped_new : (root : Node) (block : ℕ) (ids : List ℕ) (fresh : ℕ) → new (grouped root block ids fresh) ≡ grouped (new root) (f block) (map f ids) (f fresh)
  grouped_new root block [] fresh = refl
  grouped_new root block (i ∷ []) fresh = refl
  grouped_new root block (i ∷ j ∷ more) fresh = remade_new block (grouped_block block (i ∷ j ∷ more) fresh) (grouped_block (f block) (map f (i ∷ j ∷ more)) (f fresh)) (block_new block (i ∷ j ∷ more) fresh) root

  stands_new : (kids : List Node) (id at : ℕ) → stands_at (map new kids) (f id) at ≡ stands_at kids id at
  stands_new kids id at = ap (λ o. option_map_or (λ (kid : Node). eqb (id_of kid) (f id)) o false) (slice_get-map new kids at) ∙ by_kid (slice_get kids at)
    where
      by_kid : (o : Option Node) → option_map_or (λ (kid : Node). eqb (id_of kid) (f id)) (option_map new o) false ≡ option_map_or (λ (kid : Node). eqb (id_of kid) id) o false
      by_kid None = refl
      by_kid (Some k) = ap (λ z. eqb z (f id)) (id_renamed f k) ∙ apart (id_of k) id

  unordered_block_new : (own i j : ℕ) (kids : List Node) (order : List (ℕ × ℕ)) → new (unordered_block own i j kids order) ≡ unordered_block (f own) (f i) (f j) (map new kids) order
  unordered_block_new own i j kids order =
      renamed-Block f own kids (unordered_pairs i j kids order)
      ∙ ap (Block (f own) (map new kids)) (filter_alike (λ p. not (stands_at kids i p.0 && stands_at kids j p.1)) (λ p. not (stands_at (map new kids) (f i) p.0 && stands_at (map new kids) (f j) p.1))
      (λ p. ap (λ b. not (b && stands_at kids j p.1)) (sym (stands_new kids i p.0)) ∙ ap (λ b. not (stands_at (map new kids) (f i) p.0 && b)) (sym (stands_new kids j p.1))) order)

  unordered_new : (root : Node) (block i j : ℕ) → new (unordered root block i j) ≡ unordered (new root) (f block) (f i) (f j)
  unordered_new root block i j = remade_new block (unordered_block block i j) (unordered_block (f block) (f i) (f j)) (unordered_block_new block i j) root

  abbrev FoundAlike : ℕ → Node → Type 0
  FoundAlike block n = find_in (f block) (new n) ≡ option_map new (find_in block n)

  first_new : (o : Option Node) (os : List (Option Node)) (ps : List (Option Node)) → first_some ps ≡ option_map new (first_some os) → first_some (option_map new o ∷ ps) ≡ option_map new (first_some (o ∷ os))
  first_new None os ps e = e
  first_new (Some n) os ps e = refl

  found_kids : (block : ℕ) (kids : List Node) → Each (FoundAlike block) kids → first_some (map (find_in (f block)) (map new kids)) ≡ option_map new (first_some (map (find_in block) kids))
  found_kids block [] e = refl
  found_kids block (k ∷ ks) e =
      ap (λ o. first_some (o ∷ map (find_in (f block)) (map new ks))) e.0
      ∙ first_new (find_in block k) (map (find_in block) ks) (map (find_in (f block)) (map new ks)) (found_kids block ks e.1)

  either : (b : Bool) (n : Node) (o p : Option Node) → p ≡ option_map new o → cond b (Some (new n)) p ≡ option_map new (cond b (Some n) o)
  either true n o p e = refl
  either false n o p e = e

  found_new : (block : ℕ) (n : Node) → FoundAlike block n
  found_new block = by_node (FoundAlike block)
      (λ own a.
      ap (find_in (f block)) (renamed-Step f own a)
      ∙ find_in-Step (f block) (f own) a
      ∙ ap (λ b. cond b (Some (Step (f own) a)) None) (apart own block)
      ∙ ap (λ n. cond (eqb own block) (Some n) None) (sym (renamed-Step f own a))
      ∙ either (eqb own block) (Step own a) None None refl
      ∙ ap (option_map new) (sym (find_in-Step block own a)))
      (λ own kids order e.
      ap (find_in (f block)) (renamed-Block f own kids order)
      ∙ find_in-Block (f block) (f own) (map new kids) order
      ∙ ap (λ b. cond b (Some (Block (f own) (map new kids) order)) (first_some (map (find_in (f block)) (map new kids)))) (apart own block)
      ∙ ap (λ n. cond (eqb own block) (Some n) (first_some (map (find_in (f block)) (map new kids)))) (sym (renamed-Block f own kids order))
      ∙ either (eqb own block) (Block own kids order) (first_some (map (find_in block) kids)) (first_some (map (find_in (f block)) (map new kids))) (found_kids block kids e)
      ∙ ap (option_map new) (sym (find_in-Block block own kids order)))

  -- a test of a node by what it opens to
  convex_in_new : (ids : List ℕ) (n : Node) → is_convex_in (new n) (map f ids) ≡ is_convex_in n ids
  convex_in_new ids = by_node (λ n. is_convex_in (new n) (map f ids) ≡ is_convex_in n ids)
      (λ own a. ap (λ n. is_convex_in n (map f ids)) (renamed-Step f own a) ∙ ap (convex_in_layer (map f ids)) (outs-Step (f own) a) ∙ sym (ap (convex_in_layer ids) (outs-Step own a)))
      (λ own kids order e.
      ap (λ n. is_convex_in n (map f ids)) (renamed-Block f own kids order)
      ∙ ap (convex_in_layer (map f ids)) (outs-Block (f own) (map new kids) order)
      ∙ ap (are_convex order (map f ids)) (numbered 0 kids)
      ∙ convex_new order ids (enumerate_from 0 kids)
      ∙ sym (ap (convex_in_layer ids) (outs-Block own kids order)))

  convex_at_new : (block : ℕ) (ids : List ℕ) (root : Node) → convex_at (f block) (map f ids) (new root) ≡ convex_at block ids root
  convex_at_new block ids root = ap (λ o. option_map_or (λ (n : Node). is_convex_in n (map f ids)) o true) (found_new block root) ∙ by_node_there (find_in block root)
    where
      by_node_there : (o : Option Node) → option_map_or (λ (n : Node). is_convex_in n (map f ids)) (option_map new o) true ≡ option_map_or (λ (n : Node). is_convex_in n ids) o true
      by_node_there None = refl
      by_node_there (Some n) = convex_in_new ids n

  between_new : (order : List (ℕ × ℕ)) (i j : ℕ) (ks : List (ℕ × Node)) (at : ℕ) → is_between order (f i) (f j) (map new_kid ks) at ≡ is_between order i j ks at
  between_new order i j ks at =
      ap (λ b. b && is_before_some order (f j ∷ []) (map new_kid ks) at) (after_new order (i ∷ []) ks at)
      ∙ ap (λ b. is_after_some order (i ∷ []) ks at && b) (before_new order (j ∷ []) ks at)

  has_between_new : (i j : ℕ) (n : Node) → has_between (new n) (f i) (f j) ≡ has_between n i j
  has_between_new i j = by_node (λ n. has_between (new n) (f i) (f j) ≡ has_between n i j)
      (λ own a. ap (λ n. has_between n (f i) (f j)) (renamed-Step f own a) ∙ ap (between_in_layer (f i) (f j)) (outs-Step (f own) a) ∙ sym (ap (between_in_layer i j) (outs-Step own a)))
      (λ own kids order e.
      let ks = enumerate_from 0 kids in
      ap (λ n. has_between n (f i) (f j)) (renamed-Block f own kids order)
      ∙ ap (between_in_layer (f i) (f j)) (outs-Block (f own) (map new kids) order)
      ∙ ap (λ z. list_any (λ (k : ℕ × Node). is_between order (f i) (f j) z k.0) z) (numbered 0 kids)
      ∙ any_new (λ k. is_between order (f i) (f j) (map new_kid ks) k.0) (λ k. is_between order i j ks k.0) (λ k. between_new order i j ks k.0) ks
      ∙ sym (ap (between_in_layer i j) (outs-Block own kids order)))

  between_at_new : (block i j : ℕ) (root : Node) → between_at (f block) (f i) (f j) (new root) ≡ between_at block i j root
  between_at_new block i j root = ap (λ o. option_map_or (λ (n : Node). has_between n (f i) (f j)) o false) (found_new block root) ∙ by_node_there (find_in block root)
    where
      by_node_there : (o : Option Node) → option_map_or (λ (n : Node). has_between n (f i) (f j)) (option_map new o) false ≡ option_map_or (λ (n : Node). has_between n i j) o false
      by_node_there None = refl
      by_node_there (Some n) = has_between_new i j n

  side_new : (ids : List ℕ) (fresh : ℕ) → side_id (map f ids) (f fresh) ≡ f (side_id ids fresh)
  side_new [] fresh = refl
  side_new (i ∷ []) fresh = refl
  side_new (i ∷ j ∷ more) fresh = refl

  count_new : (ids : List ℕ) → count_taken (map f ids) ≡ count_taken ids
  count_new [] = refl
  count_new (i ∷ []) = refl
  count_new (i ∷ j ∷ more) = refl

  -- the two sides of a block, where free ids go on as before
  module _ (root : Node) (block : ℕ) (left right : List ℕ) (next : ℕ) (goes_on : f (next + count_taken left) ≡ f next + count_taken left) where
    fresh_new : right_fresh (map f left) (f next) ≡ f (right_fresh left next)
    fresh_new = ap (λ n. f next + n) (count_new left) ∙ sym goes_on

    pub both_new : new (both_grouped root block left right next) ≡ both_grouped (new root) (f block) (map f left) (map f right) (f next)
    both_new =
        grouped_new (grouped root block left next) block right (right_fresh left next)
        ∙ ap (λ z. grouped z (f block) (map f right) (f (right_fresh left next))) (grouped_new root block left next)
        ∙ ap (grouped (grouped (new root) (f block) (map f left) (f next)) (f block) (map f right)) (sym fresh_new)

    right_side_new : side_id (map f right) (right_fresh (map f left) (f next)) ≡ f (side_id right (right_fresh left next))
    right_side_new = ap (side_id (map f right)) fresh_new ∙ side_new right (right_fresh left next)

    pub tightened_new : new (tightened root block left right next) ≡ tightened (new root) (f block) (map f left) (map f right) (f next)
    tightened_new =
        unordered_new (both_grouped root block left right next) block (side_id left next) (side_id right (right_fresh left next))
        ∙ ap (λ z. unordered z (f block) (f (side_id left next)) (f (side_id right (right_fresh left next)))) both_new
        ∙ ap (λ z. unordered (both_grouped (new root) (f block) (map f left) (map f right) (f next)) (f block) z (f (side_id right (right_fresh left next)))) (sym (side_new left next))
        ∙ ap (unordered (both_grouped (new root) (f block) (map f left) (map f right) (f next)) (f block) (side_id (map f left) (f next))) (sym right_side_new)

    pub convex_sides_new : convex_at (f block) (map f right) (grouped (new root) (f block) (map f left) (f next)) ≡ convex_at block right (grouped root block left next)
    convex_sides_new = ap (convex_at (f block) (map f right)) (sym (grouped_new root block left next)) ∙ convex_at_new block right (grouped root block left next)

    pub between_sides_new : between_at (f block) (side_id (map f left) (f next)) (side_id (map f right) (right_fresh (map f left) (f next))) (both_grouped (new root) (f block) (map f left) (map f right) (f next))
        ≡ between_at block (side_id left next) (side_id right (right_fresh left next)) (both_grouped root block left right next)
    between_sides_new =
        ap (λ z. between_at (f block) (side_id (map f left) (f next)) (side_id (map f right) (right_fresh (map f left) (f next))) z) (sym both_new)
        ∙ ap (λ z. between_at (f block) z (side_id (map f right) (right_fresh (map f left) (f next))) (new (both_grouped root block left right next))) (side_new left next)
        ∙ ap (λ z. between_at (f block) (f (side_id left next)) z (new (both_grouped root block left right next))) right_side_new
        ∙ between_at_new block (side_id left next) (side_id right (right_fresh left next)) (both_grouped root block left right next)
