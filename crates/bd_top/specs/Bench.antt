-- How the command `bench` ends: with the run that improves the plan of generated errands by the numbers that `improve` has where its
-- words tell none, and with the summary alone.
use Rattle.std.specs.Prelude.{◌≡◌, ℕ, List, [], Option, Some, None}
use Rattle.bd_task.specs.TaskView.{TaskView}
use Rattle.bd_workers.specs.Turn.{IsOver}
use Rattle.command_words.specs.Asked.{numbers_at}
use Rattle.command_words.specs.declared.request.Numbers.{Numbers}
use Rattle.run_texts.specs.Taken.{Taken, IsSilent, Receives, IsCut}
use Rattle.run_texts.specs.Texts.{summary_of}
use Rattle.run_texts.specs.declared.record.RunRecord.{RunRecord}
use Rattle.bd_top.specs.declared.status.Status.{Status}
use Rattle.bd_top.specs.declared.status.Status.TheVariants as status
use Rattle.bd_top.specs.Improve.{Improves, setup_of}
use Rattle.bd_top.specs.Plans.{IsErrandsPlan}
use Rattle.bd_top.specs.Words.{errands_asked}

-- the numbers that a plan is improved by where the words tell none
abbrev pub default_numbers : Numbers
default_numbers = numbers_at []

-- the words ask for so many errands, whose generated texts give a task and a valid plan, and the run improves it
pub record IsBenchRun (words : List (List ℕ)) (run : RunRecord) : Type 0 where
  pub size : ℕ
  pub asked : errands_asked words ≡ Some size
  pub task : TaskView
  pub list : List ℕ
  pub valid : IsErrandsPlan size task list
  pub improves : Improves task list default_numbers run

-- the run ended dry or closed, and `out` has received exactly the summary
pub record IsBenchDone (words : List (List ℕ)) (out notes : Taken) (run : RunRecord) : Type 0 where
  pub is_run : IsBenchRun words run
  pub over : IsOver (setup_of default_numbers) is_run.improves.core run.pieces run.end
  pub printed : Receives out (summary_of run)
  pub noted : IsSilent notes

-- the run ended dry or closed, and `out` failed within the summary
pub record IsBenchCut (words : List (List ℕ)) (out notes : Taken) (run : RunRecord) : Type 0 where
  pub is_run : IsBenchRun words run
  pub over : IsOver (setup_of default_numbers) is_run.improves.core run.pieces run.end
  pub printed : IsCut out (summary_of run)
  pub noted : IsSilent notes

-- memory was wanting for the run or for its summary
pub record IsBenchUntold (words : List (List ℕ)) (out notes : Taken) (run : RunRecord) : Type 0 where
  pub is_run : IsBenchRun words run
  pub nothing : IsSilent out
  pub noted : IsSilent notes

-- what the improving of a list by the default numbers and the put of its summary end with
abbrev pub TellsSummary : TaskView → List ℕ → Taken → Status → Option RunRecord → Type 0
TellsSummary task list out status.Done (Some run) =
    ((i : Improves task list default_numbers run) × IsOver (setup_of default_numbers) i.core run.pieces run.end) × Receives out (summary_of run)
TellsSummary task list out status.WriteFault (Some run) =
    ((i : Improves task list default_numbers run) × IsOver (setup_of default_numbers) i.core run.pieces run.end) × IsCut out (summary_of run)
TellsSummary task list out status.NoMemory (Some run) = Improves task list default_numbers run × IsSilent out
TellsSummary task list out status.NoMemory None = IsSilent out
TellsSummary task list out other run = ⊥
