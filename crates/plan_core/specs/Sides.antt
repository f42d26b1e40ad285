-- The two sides of a tightening: kids of a block that are grouped on the left and on the right, and then unordered.
use Rattle.std.specs.Prelude.{ℕ, Bool, true, false, not, ◌&&◌, nat_lt, List, ◌++◌, length}
use Rattle.std.specs.Option.{option_map_or}
use Rattle.bd_base.specs.Facts.{is_subset}
use Rattle.bd_tree.specs.declared.node.Node.{Node}
use Rattle.bd_tree.specs.declared.node.Node.TheOpen.{Node-F}
use Rattle.bd_tree.specs.declared.node.Node.TheViews.{out-Node}
use Rattle.bd_tree.specs.Tree.{find_in}
use Rattle.bd_tree.specs.WellFormed.{are_distinct}
use Rattle.bd_shape.specs.Kids.{kids_at, convex_at}
use Rattle.bd_shape.specs.Hull.{between_at}
use Rattle.bd_shape.specs.Grouped.{CanGroup, grouped, side_id}
use Rattle.bd_shape.specs.Unordered.{CanUnorder}
use Rattle.bd_shape.specs.Tightened.{right_fresh, both_grouped}

abbrev pub is_block_layer : Node-F Node → Bool
is_block_layer (Node-F.Step id action) = false
is_block_layer (Node-F.Block id kids order) = true

abbrev pub is_block : Node → Bool
is_block node = is_block_layer (out-Node node)

-- whether the id is that of a block of the tree
abbrev pub is_block_at : ℕ → Node → Bool
is_block_at block root = option_map_or is_block (find_in block root) false

-- whether the block is there, and the ids of both sides are kids of it
abbrev pub has_sides : Node → ℕ → List ℕ → List ℕ → Bool
has_sides root block left right = is_block_at block root && is_subset left (kids_at block root) && is_subset right (kids_at block root)

-- whether neither side is empty, and no id stands twice in the two
abbrev pub are_two : List ℕ → List ℕ → Bool
are_two left right = nat_lt 0 (length left) && nat_lt 0 (length right) && are_distinct (left ++ right)

-- whether the two sides can be unordered: the left one is convex, the right one is convex once the left one is grouped, and
-- nothing is between them once both are grouped
abbrev pub are_sides : Node → ℕ → List ℕ → List ℕ → ℕ → Bool
are_sides root block left right next =
    are_two left right
    && convex_at block left root
    && convex_at block right (grouped root block left next)
    && not (between_at block (side_id left next) (side_id right (right_fresh left next)) (both_grouped root block left right next))

-- the sides can be grouped one after the other, and then unordered
pub record CanTighten (root : Node) (block : ℕ) (left right : List ℕ) (next : ℕ) : Type 0 where
  pub left_groups : CanGroup root block left
  pub right_groups : CanGroup (grouped root block left next) block right
  pub unorders : CanUnorder (both_grouped root block left right next) block (side_id left next) (side_id right (right_fresh left next))
