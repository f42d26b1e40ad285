-- A node with other ids.
use Rattle.std.specs.Prelude.{ℕ}
use Rattle.bd_tree.specs.declared.node.Node.{Node, Step, Block}
use Rattle.bd_tree.specs.declared.node.Node.TheOpen.{Node-F}
use Rattle.bd_tree.specs.declared.node.Node.TheFolds.{fold-Node}

abbrev pub renamed_step : (ℕ → ℕ) → Node-F Node → Node
renamed_step f (Node-F.Step id action) = Step (f id) action
renamed_step f (Node-F.Block id kids order) = Block (f id) kids order

-- the node with f of each id in its place; kids, orders and actions stay
abbrev pub renamed : (ℕ → ℕ) → Node → Node
renamed f = fold-Node Node (renamed_step f)
