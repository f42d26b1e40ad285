-- When a verdict on a subtask is true. It speaks of all lists of actions.
use Rattle.std.specs.Prelude.{◌≡◌, ℕ, ◌<◌, ◌≤◌, List, length}
use Rattle.bd_task.specs.TaskView.{TaskView}
use Rattle.bd_task.specs.Valid.{cost_of}
use Rattle.bd_states.specs.Passed.{passed, AllDiffer, AreReached}
use Rattle.bd_search.specs.declared.verdict.Kind.{Kind}
use Rattle.bd_search.specs.declared.verdict.Kind.TheVariants.{Found, Exhausted, Spent}
use Rattle.bd_subtask.specs.Compiled.{compiled}
use Rattle.bd_subtask.specs.Solves.{Solves}
use Rattle.bd_subtask.specs.declared.parts.SubTask.{SubTask}

-- no list that solves the subtask costs less than c
abbrev pub NoneSolvesBelow : TaskView → SubTask → ℕ → Type 0
NoneSolvesBelow task sub c = (list : List ℕ) → Solves task sub list → c ≤ cost_of task list

-- the states of the compiled subtask that a list passes
abbrev pub compiled_states : TaskView → SubTask → List ℕ → List (List ℕ)
compiled_states task sub list = passed (compiled task sub) (compiled task sub).init list

-- the list solves the subtask, costs less than the bound and no more than any that solves it, and passes no compiled state twice
pub record IsSolution (task : TaskView) (sub : SubTask) (list : List ℕ) : Type 0 where
  pub solves : Solves task sub list
  pub cheap : cost_of task list < sub.bound
  pub apart : AllDiffer (compiled_states task sub list)
  pub best : NoneSolvesBelow task sub (cost_of task list)

-- the floor is below the bound and no list that solves is cheaper than it, and so many compiled states are reached at no higher cost
pub record IsSpentOn (task : TaskView) (sub : SubTask) (nodes floor : ℕ) : Type 0 where
  pub below : floor < sub.bound
  pub best : NoneSolvesBelow task sub floor
  pub states : List (List ℕ)
  pub count : nodes ≤ length states
  pub apart : AllDiffer states
  pub reached : AreReached (compiled task sub) floor states

-- the verdict is true of the task, the subtask and the budget
abbrev pub IsTrueOf : TaskView → SubTask → ℕ → Kind → Type 0
IsTrueOf task sub nodes (Found list) = IsSolution task sub list
IsTrueOf task sub nodes Exhausted = NoneSolvesBelow task sub sub.bound
IsTrueOf task sub nodes (Spent floor lent) = IsSpentOn task sub nodes floor × (lent ≡ nodes)
