-- What the validator answers.
use Rattle.std.specs.Prelude.{◌≡◌, ℕ, ◌<◌, ◌≤◌, Option, Some, None, Result, Ok, Err}
use Rattle.bd_task.specs.Valid.{Break, step_lacks, goal_lacks}
use Rattle.seq_check.specs.declared.judging.Broken.{Broken}
use Rattle.seq_check.specs.declared.judging.Broken.TheVariants.{Step, Goal, NoMemory}

-- the answer tells just this break, or this cost where there is none; want of memory is free
abbrev pub Answers : Option Break → ℕ → Result ℕ Broken → Type 0
Answers break cost (Err NoMemory) = Unit {0}
Answers None cost (Ok told) = told ≡ cost
Answers None cost (Err (Step at fact)) = ⊥
Answers None cost (Err (Goal fact)) = ⊥
Answers (Some break) cost (Ok told) = ⊥
Answers (Some (step_lacks place f)) cost (Err (Step at fact)) = (at ≡ place) × (fact ≡ f)
Answers (Some (step_lacks place f)) cost (Err (Goal fact)) = ⊥
Answers (Some (goal_lacks f)) cost (Err (Step at fact)) = ⊥
Answers (Some (goal_lacks f)) cost (Err (Goal fact)) = fact ≡ f

abbrev pub IsOkOrNoMemory : Result ℕ Broken → Type 0
IsOkOrNoMemory (Ok told) = Unit {0}
IsOkOrNoMemory (Err NoMemory) = Unit {0}
IsOkOrNoMemory (Err (Step at fact)) = ⊥
IsOkOrNoMemory (Err (Goal fact)) = ⊥

-- the fact is one of so many, and the place one of a list's of that length
abbrev pub IsInRange : ℕ → ℕ → Result ℕ Broken → Type 0
IsInRange facts steps (Ok told) = Unit {0}
IsInRange facts steps (Err NoMemory) = Unit {0}
IsInRange facts steps (Err (Step at fact)) = (0 < at) × (at ≤ steps) × (fact < facts)
IsInRange facts steps (Err (Goal fact)) = fact < facts
