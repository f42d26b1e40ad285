-- Sound trees, their first faults, and what soundness promises.
use Rattle.std.specs.Prelude.{◌≡◌, ℕ, ◌<◌, Bool, true, ◌&&◌, List, length, map, Option, None, slice_get, nat_lt}
use Rattle.std.specs.List.{list_all, enumerate_from, AllByRecursion}
use Rattle.std.specs.Option.{option_or}
use Rattle.bd_base.specs.Facts.{is_subset}
use Rattle.bd_task.specs.declared.ground.Action.{Action}
use Rattle.bd_task.specs.TaskView.{TaskView}
use Rattle.bd_task.specs.Valid.{IsValid}
use Rattle.bd_tree.specs.declared.node.Node.{Node}
use Rattle.bd_tree.specs.declared.node.Node.TheOpen.{Node-F}
use Rattle.bd_tree.specs.declared.node.Node.TheFolds.{fold-Node}
use Rattle.bd_tree.specs.Linearisation.{IsLinearisation}
use Rattle.bd_links.specs.declared.parts.Effects.{Effects}
use Rattle.bd_links.specs.Child.{Child}
use Rattle.bd_links.specs.declared.parts.Fault.{Fault}
use Rattle.bd_links.specs.Effects.{Kid, block_effects, step_effects, are_safe}
use Rattle.bd_links.specs.Faults.{first_of, block_fault, holds_after, root_fault}

-- a node's id and effects, whether it is well linked, and the first fault inside it
pub record Summary : Type 0 where
  pub child : Child
  pub well_linked : Bool
  pub fault : Option Fault

abbrev pub numbered : List Summary → List Kid
numbered kids = enumerate_from 0 (map (λ k. k.child) kids)

-- a step is well linked; a block is where each kid is and each kid is safe for what it needs; faults inside the kids come first
abbrev pub summary_step : List Action → Node-F Summary → Summary
summary_step actions (Node-F.Step id action) = record {
  child = record { id = id; effects = step_effects (slice_get actions action) };
  well_linked = true;
  fault = None;
}
summary_step actions (Node-F.Block id kids order) = record {
  child = record { id = id; effects = block_effects order (numbered kids) };
  well_linked = list_all (λ k. k.well_linked) kids && are_safe order (numbered kids);
  fault = option_or (first_of (map (λ k. k.fault) kids)) (block_fault id order (numbered kids));
}

abbrev pub summary_of : List Action → Node → Summary
summary_of actions = fold-Node Summary (summary_step actions)

-- a node's id and effects
abbrev pub child_of : List Action → Node → Child
child_of actions node = (summary_of actions node).child

-- what a node needs, gives and deletes
abbrev pub effects_of : List Action → Node → Effects
effects_of actions node = (child_of actions node).effects

abbrev pub is_well_linked : List Action → Node → Bool
is_well_linked actions node = (summary_of actions node).well_linked

-- the link check: the root is well linked, what it needs is true at the start, and each goal fact is true at its end
pub record IsSound (task : TaskView) (root : Node) : Type 0 where
  pub linked : is_well_linked task.actions root ≡ true
  pub needs : is_subset (effects_of task.actions root).need task.init ≡ true
  pub goals : list_all (holds_after task.init (effects_of task.actions root)) task.goal ≡ true

-- the first fault of a tree
abbrev pub first_fault : TaskView → Node → Option Fault
first_fault task root = option_or (summary_of task.actions root).fault (root_fault task.init task.goal (effects_of task.actions root))

abbrev pub below_step : ℕ → Node-F Bool → Bool
below_step n (Node-F.Step id action) = nat_lt action n
below_step n (Node-F.Block id kids order) = list_all (λ b. b) kids

-- whether each action of a node is below the number
abbrev pub are_below : ℕ → Node → Bool
are_below n = fold-Node Bool (below_step n)

-- the actions of the list are the task's
abbrev pub AreThere : TaskView → List ℕ → Type 0
AreThere task = AllByRecursion (λ a. a < length task.actions)

-- each linearisation of the tree is valid
abbrev pub RunsAlways : TaskView → Node → Type 0
RunsAlways task root = (list : List ℕ) → IsLinearisation root list → IsValid task list
