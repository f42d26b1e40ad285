-- What deordering promises of a valid list, and what it answers.
use Rattle.std.specs.Prelude.{◌≡◌, ℕ, ◌<◌, ◌≤◌, List, Option, Some, None, Result, Ok, Err}
use Rattle.bd_task.specs.TaskView.{TaskView}
use Rattle.bd_task.specs.Valid.{Break, step_lacks, goal_lacks}
use Rattle.bd_tree.specs.declared.node.Node.{Node, Block}
use Rattle.bd_tree.specs.Chain.{steps_from}
use Rattle.bd_tree.specs.Tree.{listed_of}
use Rattle.bd_tree.specs.WellFormed.{IsWellFormed}
use Rattle.bd_links.specs.Sound.{IsSound}
use Rattle.bd_reason.specs.Reasons.{HaveReasons}
use Rattle.seq_check.specs.declared.judging.Broken.{Broken}
use Rattle.seq_check.specs.declared.judging.Broken.TheVariants.{Step, Goal, NoMemory}

-- a flat tree of the steps of the list in turn, with the ids from 1 on, that is sound, and each of whose pairs with
-- nothing between has a reason
pub record IsDeordered (task : TaskView) (list : List ℕ) (root : Node) : Type 0 where
  pub order : List (ℕ × ℕ)
  pub flat : root ≡ Block 0 (steps_from 1 list) order
  pub well_formed : IsWellFormed root
  pub listed : listed_of root ≡ list
  pub sound : IsSound task root
  pub reasons : HaveReasons task.actions (steps_from 1 list) order

-- the answer is such a tree where the list doesn't break, and else its first break; want of memory is free
abbrev pub Answers : TaskView → List ℕ → Option Break → Result Node Broken → Type 0
Answers task list break (Err NoMemory) = Unit {0}
Answers task list None (Ok tree) = IsDeordered task list tree
Answers task list None (Err (Step at fact)) = ⊥
Answers task list None (Err (Goal fact)) = ⊥
Answers task list (Some break) (Ok tree) = ⊥
Answers task list (Some (step_lacks place f)) (Err (Step at fact)) = (at ≡ place) × (fact ≡ f)
Answers task list (Some (step_lacks place f)) (Err (Goal fact)) = ⊥
Answers task list (Some (goal_lacks f)) (Err (Step at fact)) = ⊥
Answers task list (Some (goal_lacks f)) (Err (Goal fact)) = fact ≡ f

-- what a break names is one of so many facts, and a place of a list of so many steps
abbrev pub IsInRange : ℕ → ℕ → Result Node Broken → Type 0
IsInRange facts steps (Ok tree) = Unit {0}
IsInRange facts steps (Err NoMemory) = Unit {0}
IsInRange facts steps (Err (Step at fact)) = (0 < at) × (at ≤ steps) × (fact < facts)
IsInRange facts steps (Err (Goal fact)) = fact < facts
