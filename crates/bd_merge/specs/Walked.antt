-- Inner: serves this crate's own proofs alone.
-- Nodes that come in the order of a block's kids.
use Rattle.std.specs.Prelude.{◌≡◌, List, [], ◌∷◌, ◌++◌}
use Rattle.bd_tree.specs.declared.node.Node.{Node}

-- the node is one of the kids, and these come behind it
pub record IsBehind (kids : List Node) (node : Node) (later : List Node) : Type 0 where
  pub before : List Node
  pub parts : kids ≡ before ++ node ∷ later

-- each node is one of the kids behind those that the earlier nodes are
abbrev pub ComeInOrder : List Node → List Node → Type 0
ComeInOrder kids [] = Unit {0}
ComeInOrder kids (node ∷ nodes) = (later : List Node) × IsBehind kids node later × ComeInOrder later nodes
