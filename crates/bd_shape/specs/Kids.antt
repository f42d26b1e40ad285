-- The kids of a block, by their ids, and what is asked of a block in a tree.
use Rattle.std.specs.Option.{option_map_or}
use Rattle.std.specs.Prelude.{ℕ, Bool, true, ◌&&◌, List, [], map}
use Rattle.bd_base.specs.Facts.{is_subset}
use Rattle.bd_tree.specs.declared.node.Node.{Node}
use Rattle.bd_tree.specs.declared.node.Node.TheOpen.{Node-F}
use Rattle.bd_tree.specs.declared.node.Node.TheViews.{out-Node}
use Rattle.bd_tree.specs.Convex.{is_convex_in}
use Rattle.bd_tree.specs.Tree.{id_of, find_in}
use Rattle.bd_tree.specs.WellFormed.{are_distinct}

abbrev pub kids_in_layer : Node-F Node → List ℕ
kids_in_layer (Node-F.Step id action) = []
kids_in_layer (Node-F.Block id kids order) = map id_of kids

-- the ids of a node's kids, in their listing; a step has none
abbrev pub kid_ids : Node → List ℕ
kid_ids node = kids_in_layer (out-Node node)

-- the ids of the kids of the block with the id, in their listing; none where it isn't there
abbrev pub kids_at : ℕ → Node → List ℕ
kids_at block root = option_map_or kid_ids (find_in block root) []

-- whether the kids of the block with these ids are convex
abbrev pub convex_at : ℕ → List ℕ → Node → Bool
convex_at block ids root = option_map_or (λ (node : Node). is_convex_in node ids) (find_in block root) true

-- whether the ids are kids of the node, each different from the others
abbrev pub are_kids : Node → List ℕ → Bool
are_kids node ids = is_subset ids (kid_ids node) && are_distinct ids
