-- How the command `deorder` ends: with the run of a core that opened on the deordered tree of the plan and took gains until
-- its tree was tight, and with the text of that tree.
use Rattle.std.specs.Prelude.{◌≡◌, ℕ, ◌<◌, ◌≤◌, All, List, [], length, Option, Some, None}
use Rattle.bd_base.specs.Shelf.{Told}
use Rattle.bd_task.specs.TaskView.{TaskView}
use Rattle.bd_task.specs.Valid.{IsValid}
use Rattle.bd_report.specs.TreeText.{tree_lines}
use Rattle.plan_core.specs.Core.{CoreView}
use Rattle.plan_loosen.specs.Loosened.{IsLoosened}
use Rattle.bd_pieces.specs.declared.pieces.End.TheVariants as end
use Rattle.run_texts.specs.declared.record.RunRecord.{RunRecord}
use Rattle.bd_top.specs.declared.status.Status.{Status}
use Rattle.bd_top.specs.declared.status.Status.TheVariants as status
use Rattle.bd_top.specs.Plans.{IsCheckedPlan}
use Rattle.run_texts.specs.Taken.{Taken, IsSilent, Receives, IsCut}
use Rattle.bd_top.specs.declared.purpose.Purpose.TheVariants as purpose
use Rattle.bd_top.specs.Words.{purpose_asked}

-- the record of a core whose tree is tight
abbrev pub tight_record : CoreView → RunRecord
tight_record core = record {
  task = core.task;
  start = core.start;
  history = core.history;
  tree = core.tree;
  pieces = [];
  replies = [];
  end = Some end.Tight;
}

-- The run loosens a list: it starts from a deordered tree of the list, its history has tightenings alone and replays to its
-- tree, that tree is tight at the span, and the run ends so. At each place each linearisation of the tree is valid.
pub record Loosens (task : TaskView) (list : List ℕ) (span : ℕ) (run : RunRecord) : Type 0 where
  pub core : CoreView
  pub recorded : run ≡ tight_record core
  pub loosened : IsLoosened task list span core

-- the words ask to deorder the plan of three texts, which give a task and a valid plan, and the run loosens it at the span of the words
pub record IsDeorderRun (words : List (List ℕ)) (tells : List ℕ → Told) (run : RunRecord) : Type 0 where
  pub span : ℕ
  pub asked : purpose_asked words ≡ Some (purpose.Deorder span)
  pub cost : ℕ
  pub checked : IsCheckedPlan words tells cost
  pub loosens : Loosens checked.task checked.list span run

-- the text of a run's tree
abbrev pub told_tree : RunRecord → List ℕ
told_tree run = tree_lines run.task run.tree

-- `out` has received exactly the text of the tree
pub record IsTreeTold (words : List (List ℕ)) (tells : List ℕ → Told) (out notes : Taken) (run : RunRecord) : Type 0 where
  pub is_run : IsDeorderRun words tells run
  pub printed : Receives out (told_tree run)
  pub noted : IsSilent notes

-- `out` failed within the text of the tree
pub record IsTreeCut (words : List (List ℕ)) (tells : List ℕ → Told) (out notes : Taken) (run : RunRecord) : Type 0 where
  pub is_run : IsDeorderRun words tells run
  pub printed : IsCut out (told_tree run)
  pub noted : IsSilent notes

-- memory was wanting for the text of the tree
pub record IsTreeUntold (words : List (List ℕ)) (tells : List ℕ → Told) (out notes : Taken) (run : RunRecord) : Type 0 where
  pub is_run : IsDeorderRun words tells run
  pub nothing : IsSilent out
  pub noted : IsSilent notes

-- what is known of a list of a task that is to be deordered or improved
pub record IsKnown (task : TaskView) (list : List ℕ) : Type 0 where
  pub in_range : All (λ a. a < length task.actions) list
  pub few : length list ≤ 2_000
  pub valid : IsValid task list

-- what the deordering of a list, the tightening of its tree and the put of the tree's text end with
abbrev pub TellsTree : TaskView → List ℕ → ℕ → Taken → Status → Option RunRecord → Type 0
TellsTree task list span out status.Done (Some run) = Loosens task list span run × Receives out (told_tree run)
TellsTree task list span out status.WriteFault (Some run) = Loosens task list span run × IsCut out (told_tree run)
TellsTree task list span out status.NoMemory (Some run) = Loosens task list span run × IsSilent out
TellsTree task list span out status.NoMemory None = IsSilent out
TellsTree task list span out other run = ⊥
