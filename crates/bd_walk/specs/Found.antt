-- Inner: serves this crate's own proofs alone.
-- What the walk finds, and what it passes.
use Rattle.std.specs.Option.{is_none}
use Rattle.std.specs.Prelude.{◌≡◌, ℕ, ◌+◌, ◌<◌, Bool, true, ◌&&◌, List, map, Option, Some, None, slice_get}
use Rattle.bd_task.specs.declared.ground.Action.{Action}
use Rattle.bd_task.specs.TaskView.{TaskView}
use Rattle.bd_tree.specs.declared.node.Node.{Node, Block}
use Rattle.bd_tree.specs.Tree.{find_in, greatest, ids_of, nodes_of}
use Rattle.bd_tree.specs.WellFormed.{IsWellFormed}
use Rattle.bd_links.specs.Child.{Child}
use Rattle.bd_links.specs.Sound.{child_of}
use Rattle.bd_shape.specs.Grouped.{count_taken, grouped}
use Rattle.bd_shape.specs.Measures.{AddUpAlike}
use Rattle.bd_tight.specs.declared.gain.Gain.{Gain}
use Rattle.bd_tight.specs.Candidates.{IsCandidate, Qualifies, fits, fresh_of}
use Rattle.bd_tight.specs.Gains.{facts_between, gain_at, gain_in, ids_related, qualifies, sides_by}

-- the block stands in the tree, with this order, and these are its kids with their effects
pub record Stands (actions : List Action) (root : Node) (own : ℕ) (block : Node) (order : List (ℕ × ℕ)) (known : List Child) : Type 0 where
  pub kids : List Node
  pub well : IsWellFormed root
  pub found : find_in own root ≡ Some (Block own kids order)
  pub is : block ≡ Block own kids order
  pub known_are : known ≡ map (child_of actions) kids

-- the tree in which the left side is grouped, as the id that was free
pub record GroupsLeft (root : Node) (block : ℕ) (left : List ℕ) (next : ℕ) (first : Node) : Type 0 where
  pub well : IsWellFormed root
  pub free : next ≡ fresh_of root
  pub is : first ≡ grouped root block left next
  pub nodes : nodes_of first ≡ nodes_of root + count_taken left
  pub alike : AddUpAlike root first
  pub top : greatest (ids_of first) < next + count_taken left

-- a candidate that qualifies
pub record IsFound (task : TaskView) (root : Node) (span : ℕ) (gain : Gain) : Type 0 where
  pub candidate : IsCandidate task.actions root span gain
  pub qualifies : Qualifies task root gain

-- two of the sides of two kids, which fit and qualify
pub record IsOfTwo (task : TaskView) (root : Node) (span own : ℕ) (block : Node) (known : List Child) (a b : Child) (gain : Gain) : Type 0 where
  pub left_at : ℕ
  pub left : slice_get (sides_by block a.id (ids_related (facts_between a.effects b.effects) known)) left_at ≡ Some gain.left
  pub right_at : ℕ
  pub right : slice_get (sides_by block b.id (ids_related (facts_between a.effects b.effects) known)) right_at ≡ Some gain.right
  pub of_block : gain.block ≡ own
  pub passes : (fits root span gain && qualifies task root gain) ≡ true

-- the same of two kids that are there
abbrev pub IsTried : TaskView → Node → ℕ → ℕ → Node → List Child → Option Child → Option Child → Gain → Type 0
IsTried task root span own block known None second gain = ⊥
IsTried task root span own block known (Some a) None gain = ⊥
IsTried task root span own block known (Some a) (Some b) gain = IsOfTwo task root span own block known a b gain

-- whether no candidate of the pair fits and qualifies
abbrev pub misses : TaskView → Node → ℕ → ℕ → Node → List (ℕ × ℕ) → List Child → ℕ × ℕ → Bool
misses task root span own block order known p = is_none (gain_at task root span own block known order p)

-- whether none of the block does
abbrev pub misses_in : TaskView → Node → ℕ → Option Node → Bool
misses_in task root span block = is_none (gain_in task root span block)
