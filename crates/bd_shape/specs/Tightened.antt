-- A tree in which two sets of kids of a block are grouped and then unordered.
use Rattle.std.specs.Prelude.{ℕ, ◌+◌, List}
use Rattle.bd_tree.specs.declared.node.Node.{Node}
use Rattle.bd_shape.specs.Grouped.{grouped, count_taken, side_id}
use Rattle.bd_shape.specs.Unordered.{unordered}

-- the id that is free once the left kids are grouped
abbrev pub right_fresh : List ℕ → ℕ → ℕ
right_fresh left next = next + count_taken left

-- the tree in which the left kids are grouped, and then the right ones
abbrev pub both_grouped : Node → ℕ → List ℕ → List ℕ → ℕ → Node
both_grouped root block left right next = grouped (grouped root block left next) block right (right_fresh left next)

-- the same, where the left side is then no longer before the right one; ids from the next on are taken
abbrev pub tightened : Node → ℕ → List ℕ → List ℕ → ℕ → Node
tightened root block left right next = unordered (both_grouped root block left right next) block (side_id left next) (side_id right (right_fresh left next))

-- how many ids that takes: one for each side of two or more kids
abbrev pub both_taken : List ℕ → List ℕ → ℕ
both_taken left right = count_taken left + count_taken right
