-- The kids of a block in parts: those in front of a group, its members and those behind.
use Rattle.std.proofs.Common.{◌≡◌, ℕ, ◌+◌, ◌≤◌, max, Bool, true, false, not, ◌&&◌, ◌||◌, eqb, cond, List, [], ◌∷◌, ◌++◌, length, map, filter, Option, Some, None, slice_get, refl, sym, ap, ◌∙◌, arith}
use Rattle.std.specs.List.{list_all, enumerate_from}
use Rattle.std.proofs.lemmas.Bool.{and_parts, and_from, eqb-true}
use Rattle.std.proofs.lemmas.List.{length-map}
use Rattle.bd_base.specs.Facts.{has}
use Rattle.bd_base.specs.Pairs.{is_closed}
use Rattle.bd_tree.specs.declared.node.Node.{Node, Block}
use Rattle.bd_tree.specs.Order.{is_order}
use Rattle.bd_tree.specs.Convex.{is_member}
use Rattle.bd_tree.specs.Tree.{id_of, depth_of, nodes_of, greatest, total}
use Rattle.bd_tree.specs.WellFormed.{has_orders}
use Rattle.bd_tree.proofs.NodeLemmas.{nodes_of-Block, has_orders-Block}
use Rattle.bd_shape.specs.Restricted.{members, are_before, restricted_order, restricted_block}
use Rattle.bd_shape.proofs.OrderLemmas.{closed_at, kept_is_order}
use Rattle.bd_shape.proofs.TimesLemmas.{sums-nodes, sums-numbered}

abbrev pub nodes : List (ℕ × Node) → List Node
nodes ks = map (λ (k : ℕ × Node). k.1) ks

abbrev pub positions : List (ℕ × Node) → List ℕ
positions ks = map (λ (k : ℕ × Node). k.0) ks

abbrev pub all_ordered : List Node → Bool
all_ordered ns = list_all (λ b. b) (map has_orders ns)

pub ordered-append : (xs ys : List Node) → all_ordered xs ≡ true → all_ordered ys ≡ true → all_ordered (xs ++ ys) ≡ true
ordered-append [] ys a b = b
ordered-append (x ∷ xs) ys a b = let p = and_parts (has_orders x) (all_ordered xs) a in and_from _ _ p.0 (ordered-append xs ys p.1 b)

ordered_if : (b : Bool) (k : ℕ × Node) (ks : List (ℕ × Node)) → has_orders k.1 ≡ true → all_ordered (nodes ks) ≡ true → all_ordered (nodes (cond b (k ∷ ks) ks)) ≡ true
ordered_if true k ks h a = and_from _ _ h a
ordered_if false k ks h a = a

-- the orders of some of the kids are orders
pub ordered_part : (t : ℕ × Node → Bool) (m : ℕ) (kids : List Node) → all_ordered kids ≡ true → all_ordered (nodes (filter t (enumerate_from m kids))) ≡ true
ordered_part t m [] a = refl
ordered_part t m (k ∷ ks) a = let p = and_parts (has_orders k) (all_ordered ks) a in ordered_if (t (m, k)) (m, k) (filter t (enumerate_from (m + 1) ks)) p.0 (ordered_part t (m + 1) ks p.1)

module _ (order : List (ℕ × ℕ)) (closed : is_closed order ≡ true) where
  are_before_on : (a b c : Option ℕ) → are_before order a b ≡ true → are_before order b c ≡ true → are_before order a c ≡ true
  are_before_on None b c e f = absurd (cc)
  are_before_on (Some i) None c e f = absurd (cc)
  are_before_on (Some i) (Some j) None e f = absurd (cc)
  are_before_on (Some i) (Some j) (Some k) e f = closed_at order closed i j k e f

  pub restricted_is_order : (places : List ℕ) → is_order (length places) (restricted_order order places) ≡ true
  restricted_is_order places =
      kept_is_order (length places) (λ i j. are_before order (slice_get places i) (slice_get places j))
      (λ i j k up down e f. are_before_on (slice_get places i) (slice_get places j) (slice_get places k) e f)

-- a block of some of the kids has orders
pub restricted_ordered : (own : ℕ) (order : List (ℕ × ℕ)) → is_closed order ≡ true → (ks : List (ℕ × Node)) → all_ordered (nodes ks) ≡ true → has_orders (restricted_block own order ks) ≡ true
restricted_ordered own order closed ks a =
    let many : length (map has_orders (nodes ks)) ≡ length (positions ks) =
    length-map (nodes ks) has_orders ∙ length-map ks (λ (k : ℕ × Node). k.1) ∙ sym (length-map ks (λ (k : ℕ × Node). k.0)) in
    has_orders-Block own (nodes ks) (restricted_order order (positions ks))
    ∙ and_from _ _ a (ap (λ z. is_order z (restricted_order order (positions ks))) many ∙ restricted_is_order order closed (positions ks))

-- three parts of the kids have as much as all
module _ (g : ℕ × Node → ℕ) where
  three_step : (b d : Bool) (k : ℕ × Node) (xs ys zs : List (ℕ × Node)) (n : ℕ) → total (map g xs) + total (map g ys) + total (map g zs) ≡ n →
      total (map g (cond (not b && not d) (k ∷ xs) xs)) + total (map g (cond (not b && d) (k ∷ ys) ys)) + total (map g (cond b (k ∷ zs) zs)) ≡ g k + n
  three_step true true k xs ys zs n e = omega (arith, e)
  three_step true false k xs ys zs n e = omega (arith, e)
  three_step false true k xs ys zs n e = omega (arith, e)
  three_step false false k xs ys zs n e = omega (arith, e)

  pub sums_parted : (m c : ℕ × Node → Bool) (ks : List (ℕ × Node)) →
      total (map g (filter (λ k. not (m k) && not (c k)) ks)) + total (map g (filter (λ k. not (m k) && c k) ks)) + total (map g (filter m ks)) ≡ total (map g ks)
  sums_parted m c [] = omega arith
  sums_parted m c (k ∷ ks) = three_step (m k) (c k) k (filter (λ k. not (m k) && not (c k)) ks) (filter (λ k. not (m k) && c k) ks) (filter m ks) (total (map g ks)) (sums_parted m c ks)

  few_if : (b : Bool) (k : ℕ × Node) (ks : List (ℕ × Node)) (n : ℕ) → total (map g ks) ≤ n → total (map g (cond b (k ∷ ks) ks)) ≤ g k + n
  few_if true k ks n le = omega arith
  few_if false k ks n le = omega arith

  -- some of the kids have no more than all
  pub sums_part : (t : ℕ × Node → Bool) (ks : List (ℕ × Node)) → total (map g (filter t ks)) ≤ total (map g ks)
  sums_part t [] = omega arith
  sums_part t (k ∷ ks) = few_if (t k) k (filter t ks) (total (map g ks)) (sums_part t ks)

depth_if : (b : Bool) (k : ℕ × Node) (ks : List (ℕ × Node)) (n : ℕ) → greatest (map depth_of (nodes ks)) ≤ n → greatest (map depth_of (nodes (cond b (k ∷ ks) ks))) ≤ max (depth_of k.1) n
depth_if true k ks n le = omega arith
depth_if false k ks n le = omega arith

-- some of the kids are no deeper than all
pub depth_part : (t : ℕ × Node → Bool) (m : ℕ) (kids : List Node) → greatest (map depth_of (nodes (filter t (enumerate_from m kids)))) ≤ greatest (map depth_of kids)
depth_part t m [] = omega arith
depth_part t m (k ∷ ks) = depth_if (t (m, k)) (m, k) (filter t (enumerate_from (m + 1) ks)) (greatest (map depth_of ks)) (depth_part t (m + 1) ks)

-- the ids of the kids outside, of both parts
module _ (ids : List ℕ) (q : ℕ) where
  abbrev pub has_id : List (ℕ × Node) → Bool
  has_id ks = has (map id_of (nodes ks)) q

  has_if : (b : Bool) (k : ℕ × Node) (ks : List (ℕ × Node)) → has_id (cond b (k ∷ ks) ks) ≡ (b && eqb (id_of k.1) q || has_id ks)
  has_if true k ks = refl
  has_if false k ks = refl

  parts_step : (e m d x y z h : Bool) → (e ≡ true → m ≡ h) → (x || y) ≡ (z && not h) → ((not m && not d) && e || x || ((not m && d) && e || y)) ≡ ((e || z) && not h)
  parts_step true true d x y z true f g = g ∙ none z
    where
      none : (z : Bool) → (z && false) ≡ false
      none true = refl
      none false = refl
  parts_step true true d x y z false f g = absurd (let t : true ≡ false = f refl in cc)
  parts_step true false d x y z true f g = absurd (let t : false ≡ true = f refl in cc)
  parts_step true false true x y z false f g = right x
    where
      right : (x : Bool) → (x || true) ≡ true
      right true = refl
      right false = refl
  parts_step true false false x y z false f g = refl
  parts_step false m d x y z h f g = ap (λ w. w || x || ((not m && d) && false || y)) (never (not m && not d)) ∙ ap (λ w. x || (w || y)) (never (not m && d)) ∙ g
    where
      never : (b : Bool) → (b && false) ≡ false
      never true = refl
      never false = refl

  pub parts_have : (d : ℕ × Node → Bool) (ks : List (ℕ × Node)) →
      (has_id (filter (λ k. not (has ids (id_of k.1)) && not (d k)) ks) || has_id (filter (λ k. not (has ids (id_of k.1)) && d k) ks)) ≡ (has_id ks && not (has ids q))
  parts_have d [] = refl
  parts_have d (k ∷ ks) =
      let fs = filter (λ k. not (has ids (id_of k.1)) && not (d k)) ks in
      let bs = filter (λ k. not (has ids (id_of k.1)) && d k) ks in
      let m = has ids (id_of k.1) in
      ap (λ z. z || has_id (cond (not m && d k) (k ∷ bs) bs)) (has_if (not m && not (d k)) k fs)
      ∙ ap (λ z. (not m && not (d k)) && eqb (id_of k.1) q || has_id fs || z) (has_if (not m && d k) k bs)
      ∙ parts_step (eqb (id_of k.1) q) m (d k) (has_id fs) (has_id bs) (has_id ks) (has ids q) (λ e. ap (has ids) (eqb-true (id_of k.1) q e)) (parts_have d ks)

  pub ids_numbered : (m : ℕ) (kids : List Node) → has_id (enumerate_from m kids) ≡ has (map id_of kids) q
  ids_numbered m [] = refl
  ids_numbered m (k ∷ ks) = ap (λ z. eqb (id_of k) q || z) (ids_numbered (m + 1) ks)

-- a block restricted to some of its kids
module _ (own : ℕ) (kids : List Node) (order : List (ℕ × ℕ)) (ids : List ℕ) where
  abbrev chosen : List (ℕ × Node)
  chosen = members ids (enumerate_from 0 kids)

  pub restricted_orders : has_orders (Block own kids order) ≡ true → has_orders (restricted_block own order chosen) ≡ true
  restricted_orders h =
      let parts = and_parts (all_ordered kids) (is_order (length (map has_orders kids)) order) (sym (has_orders-Block own kids order) ∙ h) in
      restricted_ordered own order (and_parts _ (is_closed order) parts.1).1 chosen (ordered_part (is_member ids) 0 kids parts.0)

  pub restricted_nodes : nodes_of (restricted_block own order chosen) ≤ nodes_of (Block own kids order)
  restricted_nodes = omega (
    arith,
    nodes_of-Block own kids order,
    nodes_of-Block own (nodes chosen) (restricted_order order (positions chosen)),
    sums-nodes nodes_of chosen,
    sums_part (λ (k : ℕ × Node). nodes_of k.1) (is_member ids) (enumerate_from 0 kids),
    sums-numbered nodes_of 0 kids,
  )
