-- The states that a list passes, states that differ, and states that are reached.
use Rattle.std.specs.Prelude.{◌≡◌, ℕ, ◌≤◌, List, [], ◌∷◌, Option, Some, None, slice_get}
use Rattle.bd_task.specs.TaskView.{TaskView}
use Rattle.bd_task.specs.Run.{step_by, run}
use Rattle.bd_task.specs.Valid.{cost_of}

abbrev pub passed_on : Option (List ℕ) → (List ℕ → List (List ℕ)) → List (List ℕ)
passed_on None f = []
passed_on (Some t) f = f t

-- the states that the run of a list passes, the first and the last among them
abbrev pub passed : TaskView → List ℕ → List ℕ → List (List ℕ)
passed task s [] = s ∷ []
passed task s (a ∷ rest) = s ∷ passed_on (step_by (slice_get task.actions a) s) (λ t. passed task t rest)

-- the state is none of the list
abbrev pub Differs : List ℕ → List (List ℕ) → Type 0
Differs s [] = Unit {0}
Differs s (t ∷ ts) = (s ≡ t → ⊥) × Differs s ts

-- no state stands twice in the list
abbrev pub AllDiffer : List (List ℕ) → Type 0
AllDiffer [] = Unit {0}
AllDiffer (s ∷ ss) = Differs s ss × AllDiffer ss

-- some list of cost at most c leads to the state
pub record IsReached (task : TaskView) (c : ℕ) (s : List ℕ) : Type 0 where
  pub list : List ℕ
  pub ends : run task task.init list ≡ Some s
  pub cheap : cost_of task list ≤ c

abbrev pub AreReached : TaskView → ℕ → List (List ℕ) → Type 0
AreReached task c [] = Unit {0}
AreReached task c (s ∷ ss) = IsReached task c s × AreReached task c ss
