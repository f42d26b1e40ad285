-- When a window stands in a tree: the block is there, what is carried is some of its kids, and they are convex.
use Rattle.std.specs.Prelude.{◌≡◌, ◌⊎◌, ℕ, ◌<◌, true, false, List, [], ◌∷◌, length, map, Some}
use Rattle.std.specs.List.{enumerate_from}
use Rattle.bd_tree.specs.declared.node.Node.{Node, Block}
use Rattle.bd_tree.specs.Convex.{are_convex}
use Rattle.bd_tree.specs.Tree.{id_of, find_in}
use Rattle.bd_tree.specs.WellFormed.{are_distinct}
use Rattle.bd_merge.specs.declared.standing.Found.{Found}
use Rattle.bd_merge.specs.declared.standing.Found.TheVariants.{At, Gone, Split}
use Rattle.bd_merge.specs.declared.window.Window.{Window}

-- the node equals one of the kids
abbrev pub IsAmong : List Node → Node → Type 0
IsAmong [] node = ⊥
IsAmong (k ∷ ks) node = (k ≡ node) ⊎ IsAmong ks node

-- each carried node equals one of the kids
abbrev pub AreAmong : List Node → List Node → Type 0
AreAmong kids [] = Unit {0}
AreAmong kids (node ∷ nodes) = IsAmong kids node × AreAmong kids nodes

-- what is carried: some kids, at least one, and none twice
pub record AreKids (kids carried : List Node) : Type 0 where
  pub some : 0 < length carried
  pub once : are_distinct (map id_of carried) ≡ true
  pub equal : AreAmong kids carried

-- the block with the window's id is there, and the window carries kids of it
pub record IsThere (root : Node) (window : Window) : Type 0 where
  pub kids : List Node
  pub order : List (ℕ × ℕ)
  pub found : find_in window.block root ≡ Some (Block window.block kids order)
  pub carried : AreKids kids window.kids

abbrev pub Stands : Node → Window → Found → Type 0
Stands root window At = (there : IsThere root window) × (are_convex there.order (map id_of window.kids) (enumerate_from 0 there.kids) ≡ true)
Stands root window Split = (there : IsThere root window) × (are_convex there.order (map id_of window.kids) (enumerate_from 0 there.kids) ≡ false)
Stands root window Gone = IsThere root window → ⊥
