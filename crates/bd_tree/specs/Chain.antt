-- The chain of a list: a root whose kids are the list's steps, with every pair ordered.
use Rattle.std.specs.Prelude.{ℕ, ◌+◌, List, [], ◌∷◌, length}
use Rattle.bd_base.specs.Pairs.{total_order}
use Rattle.bd_tree.specs.declared.node.Node.{Node, Step, Block}

-- steps of these actions, with ids from the number on
abbrev pub steps_from : ℕ → List ℕ → List Node
steps_from id [] = []
steps_from id (a ∷ list) = Step id a ∷ steps_from (id + 1) list

abbrev pub chain_of : List ℕ → Node
chain_of list = Block 0 (steps_from 1 list) (total_order (length list))
