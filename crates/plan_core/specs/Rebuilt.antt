-- The rebuilt tree: a flat root over the steps of a tree, as they are listed, with a new order.
use Rattle.std.specs.Prelude.{ℕ, List, [], ◌∷◌, ◌++◌}
use Rattle.bd_tree.specs.declared.node.Node.{Node, Step, Block}
use Rattle.bd_tree.specs.declared.node.Node.TheOpen.{Node-F}
use Rattle.bd_tree.specs.declared.node.Node.TheFolds.{fold-Node}

-- the lists one after another
abbrev pub joined_nodes : List (List Node) → List Node
joined_nodes [] = []
joined_nodes (k ∷ ks) = k ++ joined_nodes ks

abbrev pub leaves_step : Node-F (List Node) → List Node
leaves_step (Node-F.Step id action) = Step id action ∷ []
leaves_step (Node-F.Block id kids order) = joined_nodes kids

-- the steps of the listed linearisation, with their ids
abbrev pub leaves_of : Node → List Node
leaves_of = fold-Node (List Node) leaves_step

-- the tree whose root has these steps as its kids, in this order
abbrev pub rebuilt : Node → List (ℕ × ℕ) → Node
rebuilt root order = Block 0 (leaves_of root) order
