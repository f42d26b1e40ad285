-- A tree in which one block is made anew.
use Rattle.std.specs.Prelude.{ℕ, ◌==◌, if◌then◌else◌, List, map}
use Rattle.bd_tree.specs.declared.node.Node.{Node, Step, Block}
use Rattle.bd_tree.specs.declared.node.Node.TheOpen.{Node-F}
use Rattle.bd_tree.specs.declared.node.Node.TheFolds.{para-Node}

abbrev pub remake_step : ℕ → (List Node → List (ℕ × ℕ) → Node) → Node-F (Node × Node) → Node
remake_step block make (Node-F.Step own action) = Step own action
remake_step block make (Node-F.Block own kids order) = if own == block then make (map (λ k. k.0) kids) order else Block own (map (λ k. k.1) kids) order

-- the tree in which the block with the id is made anew of its kids and its order, and all else stays
abbrev pub remade : Node → ℕ → (List Node → List (ℕ × ℕ) → Node) → Node
remade root block make = para-Node Node (remake_step block make) root
