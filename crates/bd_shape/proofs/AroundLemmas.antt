-- What holds of a block where one kid of it changes.
use Rattle.std.proofs.Common.{◌≡◌, ℕ, ◌+◌, ◌≤◌, max, Bool, true, false, ◌&&◌, List, [], ◌∷◌, ◌++◌, length, map, refl, sym, ap, ◌∙◌, length-append, arith}
use Rattle.std.specs.List.{list_all}
use Rattle.std.proofs.lemmas.Bool.{and_parts, and_from}
use Rattle.std.proofs.lemmas.List.{length-map}
use Rattle.bd_tree.specs.declared.node.Node.{Node, Block}
use Rattle.bd_tree.specs.Order.{is_order}
use Rattle.bd_tree.specs.Tree.{greatest, total, joined, ids_of, listed_of, depth_of}
use Rattle.bd_tree.specs.WellFormed.{is_root, has_orders}
use Rattle.bd_tree.proofs.NodeLemmas.{depth_of-Block, ids_of-Block, listed_of-Block, is_root-Block, has_orders-Block}
use Rattle.bd_tree.proofs.BoundLemmas.{greatest-append}
use Rattle.bd_shape.proofs.KidLemmas.{map-append}
use Rattle.bd_shape.proofs.TimesLemmas.{sums-append}

-- a block has what its kids have, and some more that goes by its id alone
abbrev pub AddsMore : (ℕ → ℕ) → (Node → ℕ) → Type 0
AddsMore c g = (id : ℕ) (kids : List Node) (order : List (ℕ × ℕ)) → g (Block id kids order) ≡ c id + total (map g kids)

module _ (own : ℕ) (before : List Node) (k new : Node) (after : List Node) (o : List (ℕ × ℕ)) where
  abbrev olds : List Node
  olds = before ++ k ∷ after

  abbrev news : List Node
  news = before ++ new ∷ after

  pub more_around : (c : ℕ → ℕ) (g : Node → ℕ) → AddsMore c g → (d : ℕ) → g new ≡ g k + d → g (Block own news o) ≡ g (Block own olds o) + d
  more_around c g adds d e = omega (arith, adds own news o, adds own olds o, sums-append g before (new ∷ after), sums-append g before (k ∷ after), e)

  abbrev all_ordered : List Node → Bool
  all_ordered ns = list_all (λ b. b) (map has_orders ns)

  all-append : (xs ys : List Bool) → list_all (λ b. b) (xs ++ ys) ≡ (list_all (λ b. b) xs && list_all (λ b. b) ys)
  all-append [] ys = refl
  all-append (true ∷ xs) ys = all-append xs ys
  all-append (false ∷ xs) ys = refl

  split_ordered : (m : Node) → all_ordered (before ++ m ∷ after) ≡ (all_ordered before && (has_orders m && all_ordered after))
  split_ordered m = ap (list_all (λ b. b)) (map-append has_orders before (m ∷ after)) ∙ all-append (map has_orders before) (map has_orders (m ∷ after))

  as_many : length (map has_orders news) ≡ length (map has_orders olds)
  as_many =
      length-map news has_orders
      ∙ length-append before (new ∷ after)
      ∙ sym (length-append before (k ∷ after))
      ∙ sym (length-map olds has_orders)

  pub orders_around : (has_orders k ≡ true → has_orders new ≡ true) → has_orders (Block own olds o) ≡ true → has_orders (Block own news o) ≡ true
  orders_around h e =
      let parts = and_parts (all_ordered olds) (is_order (length (map has_orders olds)) o) (sym (has_orders-Block own olds o) ∙ e) in
      let one = and_parts (all_ordered before) (has_orders k && all_ordered after) (sym (split_ordered k) ∙ parts.0) in
      let two = and_parts (has_orders k) (all_ordered after) one.1 in
      has_orders-Block own news o
      ∙ and_from _ _ (split_ordered new ∙ and_from _ _ one.0 (and_from _ _ (h two.0) two.1)) (ap (λ z. is_order z o) as_many ∙ parts.1)

  pub root_around : is_root (Block own news o) ≡ is_root (Block own olds o)
  root_around = is_root-Block own news o ∙ sym (is_root-Block own olds o)

  deep : (m : Node) → depth_of (Block own (before ++ m ∷ after) o) ≡ 1 + max (greatest (map depth_of before)) (max (depth_of m) (greatest (map depth_of after)))
  deep m =
      depth_of-Block own (before ++ m ∷ after) o
      ∙ ap (λ z. 1 + greatest z) (map-append depth_of before (m ∷ after))
      ∙ ap (λ z. 1 + z) (greatest-append (map depth_of before) (map depth_of (m ∷ after)))

  pub depth_around : (d : ℕ) → depth_of new ≤ depth_of k + d → depth_of (Block own news o) ≤ depth_of (Block own olds o) + d
  depth_around d le = omega (arith, le, deep new, deep k)

  pub same_depth_around : depth_of new ≡ depth_of k → depth_of (Block own news o) ≡ depth_of (Block own olds o)
  same_depth_around e = deep new ∙ ap (λ z. 1 + max (greatest (map depth_of before)) (max z (greatest (map depth_of after)))) e ∙ sym (deep k)

  joined_around : (f : Node → List ℕ) → f new ≡ f k → joined (map f news) ≡ joined (map f olds)
  joined_around f e =
      ap joined (map-append f before (new ∷ after))
      ∙ ap (λ (z : List ℕ). joined (map f before ++ z ∷ map f after)) e
      ∙ sym (ap joined (map-append f before (k ∷ after)))

  pub ids_around : ids_of new ≡ ids_of k → ids_of (Block own news o) ≡ ids_of (Block own olds o)
  ids_around e = ids_of-Block own news o ∙ ap (λ z. own ∷ z) (joined_around ids_of e) ∙ sym (ids_of-Block own olds o)

  pub listed_around : listed_of new ≡ listed_of k → listed_of (Block own news o) ≡ listed_of (Block own olds o)
  listed_around e = listed_of-Block own news o ∙ joined_around listed_of e ∙ sym (listed_of-Block own olds o)
