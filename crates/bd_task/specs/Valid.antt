-- Valid lists, their costs, and the first break of a list.
use Rattle.std.specs.Prelude.{◌≡◌, ℕ, ◌+◌, true, List, [], ◌∷◌, Option, Some, None, slice_get}
use Rattle.bd_base.specs.Facts.{is_subset}
use Rattle.bd_task.specs.declared.ground.Action.{Action}
use Rattle.bd_task.specs.TaskView.{TaskView}
use Rattle.bd_task.specs.Run.{after, lacking, run}

abbrev pub cost_by : Option Action → ℕ
cost_by None = 0
cost_by (Some a) = a.cost

-- the sum of the costs of a list's actions
abbrev pub cost_of : TaskView → List ℕ → ℕ
cost_of task [] = 0
cost_of task (a ∷ rest) = cost_by (slice_get task.actions a) + cost_of task rest

-- there is a last state, and it holds the goal
abbrev pub HoldsIn : List ℕ → Option (List ℕ) → Type 0
HoldsIn goal None = ⊥
HoldsIn goal (Some s) = is_subset goal s ≡ true

-- the list runs from the initial set to a state that holds the goal
abbrev pub IsValid : TaskView → List ℕ → Type 0
IsValid task list = HoldsIn task.goal (run task task.init list)

-- where a list breaks: at a place, from 1, whose action lacks a fact, or at a goal fact that lacks in the end
pub data Break : Type 0 where
  step_lacks : ℕ → ℕ → Break
  goal_lacks : ℕ → Break

abbrev pub break_at_goal : Option ℕ → Option Break
break_at_goal None = None
break_at_goal (Some f) = Some (goal_lacks f)

abbrev pub break_at_step : ℕ → Option ℕ → Option Break → Option Break
break_at_step place None later = later
break_at_step place (Some f) later = Some (step_lacks place f)

abbrev pub lacking_by : Option Action → List ℕ → Option ℕ
lacking_by None s = None
lacking_by (Some a) s = lacking a.pre s

abbrev pub after_by : Option Action → List ℕ → List ℕ
after_by None s = s
after_by (Some a) s = after a s

-- the first break of what is left of a list, from a state and a place: sets rise, so a fact that lacks first is the least
abbrev pub break_from : TaskView → List ℕ → ℕ → List ℕ → Option Break
break_from task s place [] = break_at_goal (lacking task.goal s)
break_from task s place (a ∷ rest) =
    break_at_step place (lacking_by (slice_get task.actions a) s) (break_from task (after_by (slice_get task.actions a) s) (place + 1) rest)

-- the first break of a list
abbrev pub first_break : TaskView → List ℕ → Option Break
first_break task list = break_from task task.init 1 list
