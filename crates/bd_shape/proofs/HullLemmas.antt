-- A hull without a kid between.
use Rattle.std.proofs.Common.{◌≡◌, ℕ, Bool, true, false, ◌||◌, cond, List, [], ◌∷◌, map, filter, refl, ap, ◌∙◌}
use Rattle.std.specs.List.{enumerate_from, list_any}
use Rattle.bd_tree.specs.declared.node.Node.{Node}
use Rattle.bd_tree.specs.declared.node.Node.TheOpen.{Node-F}
use Rattle.bd_tree.specs.declared.node.Node.TheViews.{out-Node}
use Rattle.bd_tree.specs.Convex.{is_member}
use Rattle.bd_tree.specs.Tree.{id_of}
use Rattle.bd_shape.specs.Hull.{is_between, between_in_layer, has_between, is_in_hull, hull_in_layer, hull_of, two_in_layer, the_two}

neither : (m a b : Bool) → a ≡ false → b ≡ false → (m || a || b) ≡ m
neither true a b e f = refl
neither false a b e f = ap (λ z. z || b) e ∙ f

none_first : (a b : Bool) → (a || b) ≡ false → a ≡ false
none_first true b e = e
none_first false b e = refl

none_later : (a b : Bool) → (a || b) ≡ false → b ≡ false
none_later true b e = absurd (cc)
none_later false b e = e

module _ (order : List (ℕ × ℕ)) (i j : ℕ) (kids : List (ℕ × Node)) where
  kept : (ks : List (ℕ × Node)) → list_any (λ k. is_between order i j kids k.0) ks ≡ false → list_any (λ k. is_between order j i kids k.0) ks ≡ false → filter (is_in_hull order i j kids) ks ≡ filter (is_member (i ∷ j ∷ [])) ks
  kept [] e f = refl
  kept (k ∷ ks) e f =
      let here = neither (is_member (i ∷ j ∷ []) k) (is_between order i j kids k.0) (is_between order j i kids k.0) (none_first (is_between order i j kids k.0) _ e) (none_first (is_between order j i kids k.0) _ f) in
      let rest = kept ks (none_later (is_between order i j kids k.0) _ e) (none_later (is_between order j i kids k.0) _ f) in
      ap (λ z. cond z (k ∷ filter (is_in_hull order i j kids) ks) (filter (is_in_hull order i j kids) ks)) here
      ∙ ap (λ (z : List (ℕ × Node)). cond (is_member (i ∷ j ∷ []) k) (k ∷ z) z) rest

alone_in : (i j : ℕ) (layer : Node-F Node) → between_in_layer i j layer ≡ false → between_in_layer j i layer ≡ false → hull_in_layer i j layer ≡ two_in_layer i j layer
alone_in i j (Node-F.Step id action) e f = refl
alone_in i j (Node-F.Block id kids order) e f = ap (map (λ (k : ℕ × Node). id_of k.1)) (kept order i j (enumerate_from 0 kids) (enumerate_from 0 kids) e f)

pub hull_alone : (node : Node) (i j : ℕ) → has_between node i j ≡ false → has_between node j i ≡ false → hull_of node i j ≡ the_two node i j
hull_alone node i j e f = alone_in i j (out-Node node) e f
