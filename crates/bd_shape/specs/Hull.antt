-- Kids between two others, and the hull of two kids.
use Rattle.std.specs.List.{list_any, enumerate_from, filter}
use Rattle.std.specs.Option.{option_map_or}
use Rattle.std.specs.Prelude.{ℕ, Bool, false, ◌&&◌, ◌||◌, List, [], ◌∷◌, map}
use Rattle.bd_tree.specs.declared.node.Node.{Node}
use Rattle.bd_tree.specs.declared.node.Node.TheOpen.{Node-F}
use Rattle.bd_tree.specs.declared.node.Node.TheViews.{out-Node}
use Rattle.bd_tree.specs.Convex.{is_member, is_after_some, is_before_some}
use Rattle.bd_tree.specs.Tree.{id_of, find_in}

-- whether the position is after a kid with the first id and before a kid with the second
abbrev pub is_between : List (ℕ × ℕ) → ℕ → ℕ → List (ℕ × Node) → ℕ → Bool
is_between order i j kids at = is_after_some order (i ∷ []) kids at && is_before_some order (j ∷ []) kids at

abbrev pub between_in_layer : ℕ → ℕ → Node-F Node → Bool
between_in_layer i j (Node-F.Step id action) = false
between_in_layer i j (Node-F.Block id kids order) = list_any (λ k. is_between order i j (enumerate_from 0 kids) k.0) (enumerate_from 0 kids)

-- whether some kid of the node is after the first and before the second; a step has no kids
abbrev pub has_between : Node → ℕ → ℕ → Bool
has_between node i j = between_in_layer i j (out-Node node)

-- the same of the block with the id; not where it isn't there
abbrev pub between_at : ℕ → ℕ → ℕ → Node → Bool
between_at block i j root = option_map_or (λ (node : Node). has_between node i j) (find_in block root) false

-- whether the kid is one of the two, or between them
abbrev pub is_in_hull : List (ℕ × ℕ) → ℕ → ℕ → List (ℕ × Node) → ℕ × Node → Bool
is_in_hull order i j kids k = is_member (i ∷ j ∷ []) k || is_between order i j kids k.0 || is_between order j i kids k.0

abbrev pub hull_in_layer : ℕ → ℕ → Node-F Node → List ℕ
hull_in_layer i j (Node-F.Step id action) = []
hull_in_layer i j (Node-F.Block id kids order) = map (λ k. id_of k.1) (filter (is_in_hull order i j (enumerate_from 0 kids)) (enumerate_from 0 kids))

-- the ids of the hull of two kids, in the listing
abbrev pub hull_of : Node → ℕ → ℕ → List ℕ
hull_of node i j = hull_in_layer i j (out-Node node)

abbrev pub two_in_layer : ℕ → ℕ → Node-F Node → List ℕ
two_in_layer i j (Node-F.Step id action) = []
two_in_layer i j (Node-F.Block id kids order) = map (λ k. id_of k.1) (filter (is_member (i ∷ j ∷ [])) (enumerate_from 0 kids))

-- the ids of the two kids alone, in the listing
abbrev pub the_two : Node → ℕ → ℕ → List ℕ
the_two node i j = two_in_layer i j (out-Node node)
