-- Measures of nodes that add up, such as the number of steps and the cost.
use Rattle.std.specs.Prelude.{◌≡◌, ℕ, List, map}
use Rattle.bd_tree.specs.declared.node.Node.{Node, Block}
use Rattle.bd_tree.specs.Tree.{total}

-- a measure of nodes adds up: a block has what its kids have together
abbrev pub AddsUp : (Node → ℕ) → Type 0
AddsUp g = (id : ℕ) (kids : List Node) (order : List (ℕ × ℕ)) → g (Block id kids order) ≡ total (map g kids)

-- of each measure that adds up, the two trees have as much
abbrev pub AddUpAlike : Node → Node → Type 0
AddUpAlike old new = (g : Node → ℕ) → AddsUp g → g new ≡ g old
