-- The lines of a plan.
use Rattle.std.specs.Prelude.{ℕ, List, [], ◌∷◌, ◌++◌, Option, Some, None, codes, slice_get}
use Rattle.bd_task.specs.declared.ground.Action.{Action}
use Rattle.bd_task.specs.TaskView.{TaskView}

abbrev pub name_by : Option Action → List ℕ
name_by None = []
name_by (Some a) = a.name

-- a name in parentheses, and the line's end
abbrev pub shown : List ℕ → List ℕ
shown name = codes "(" ++ (name ++ codes ")\n")

-- the actions of a list, a line each
abbrev pub plan_lines : TaskView → List ℕ → List ℕ
plan_lines task [] = []
plan_lines task (a ∷ list) = shown (name_by (slice_get task.actions a)) ++ plan_lines task list
