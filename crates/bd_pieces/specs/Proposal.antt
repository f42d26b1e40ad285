-- What a proposal says of a subtask.
use Rattle.std.specs.Prelude.{ℕ, ◌⊎◌, List, Option, Some, None}
use Rattle.bd_task.specs.TaskView.{TaskView}
use Rattle.bd_greedy.specs.Proposal.{HasMany}
use Rattle.bd_subtask.specs.Compiled.{compiled}
use Rattle.bd_subtask.specs.Solves.{Solves}
use Rattle.bd_subtask.specs.declared.parts.SubTask.{SubTask}

-- the list solves the subtask; or there is none, where no list solves it or many compiled states are reached
abbrev pub IsProposalFor : TaskView → SubTask → Option (List ℕ) → Type 0
IsProposalFor task sub (Some list) = Solves task sub list
IsProposalFor task sub None = ((list : List ℕ) → Solves task sub list → ⊥) ⊎ HasMany (compiled task sub) 10_000
