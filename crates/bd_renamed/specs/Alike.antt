-- What a tree tells whatever its ids are.
use Rattle.std.specs.Prelude.{◌≡◌, ℕ, ◌<◌, ◌≤◌, ◌↔◌, List}
use Rattle.bd_task.specs.TaskView.{TaskView}
use Rattle.bd_tree.specs.declared.node.Node.{Node}
use Rattle.bd_tree.specs.Tree.{depth_of, steps_of, pairs_of, listed_of, ids_of, greatest}
use Rattle.bd_links.specs.Sound.{IsSound}
use Rattle.bd_shape.specs.Grouped.{grouped, side_id}
use Rattle.bd_shape.specs.Hull.{between_at}
use Rattle.bd_shape.specs.Kids.{convex_at}
use Rattle.bd_shape.specs.Tightened.{both_grouped, right_fresh, tightened}
use Rattle.bd_renamed.specs.Renamed.{renamed}

-- the link check, the depth, the steps, their ordered pairs and the listed linearisation say the same of both trees
pub record IsAlike (task : TaskView) (old new : Node) : Type 0 where
  pub sound : IsSound task old ↔ IsSound task new
  pub depth : depth_of new ≡ depth_of old
  pub steps : steps_of new ≡ steps_of old
  pub pairs : pairs_of new ≡ pairs_of old
  pub listed : listed_of new ≡ listed_of old

-- a tree and the same one with other ids are alike, even where two ids become one
abbrev pub IdsDontTell : TaskView → Node → (ℕ → ℕ) → Type 0
IdsDontTell task root f = IsAlike task root (renamed f root)

-- the ids of a tree, and those that an offer names, are below a number
pub record AreTaken (root : Node) (block : ℕ) (left right : List ℕ) (next : ℕ) : Type 0 where
  pub in_tree : greatest (ids_of root) < next
  pub at_block : block < next
  pub on_left : greatest left < next
  pub on_right : greatest right < next

-- two sides are grouped and unordered alike, whichever free ids the groups get: the right side is convex where it was, there is
-- something between the two where there was, and the trees are alike
pub record TightensAlike (task : TaskView) (root : Node) (block : ℕ) (left right : List ℕ) (next later : ℕ) : Type 0 where
  pub convex : convex_at block right (grouped root block left later) ≡ convex_at block right (grouped root block left next)
  pub between : between_at block (side_id left later) (side_id right (right_fresh left later)) (both_grouped root block left right later)
      ≡ between_at block (side_id left next) (side_id right (right_fresh left next)) (both_grouped root block left right next)
  pub tree : IsAlike task (tightened root block left right next) (tightened root block left right later)

abbrev pub FreeIdsDontTell : TaskView → Node → ℕ → List ℕ → List ℕ → ℕ → ℕ → Type 0
FreeIdsDontTell task root block left right next later = AreTaken root block left right next → next ≤ later → TightensAlike task root block left right next later
