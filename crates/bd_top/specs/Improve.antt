-- How the command `improve` ends: with the run of a core that opened on the deordered tree of the plan and took turns until one
-- ended, with the better plans of its history, and with the summary.
use Rattle.std.specs.Prelude.{◌≡◌, ℕ, List, [], Option, Some, None}
use Rattle.bd_base.specs.Shelf.{Told}
use Rattle.bd_task.specs.TaskView.{TaskView}
use Rattle.bd_pieces.specs.declared.pieces.End.{End}
use Rattle.bd_pieces.specs.declared.pieces.End.TheVariants as end
use Rattle.bd_pieces.specs.declared.pieces.Piece.{Piece}
use Rattle.bd_workers.specs.Turn.{IsOver}
use Rattle.bd_workers.specs.declared.parts.Setup.{Setup}
use Rattle.command_words.specs.declared.request.Numbers.{Numbers}
use Rattle.plan_core.specs.Core.{CoreView}
use Rattle.plan_improve.specs.Improved.{IsImproved}
use Rattle.run_texts.specs.Taken.{Taken, IsSilent, Receives, ReceivesPart, IsCut}
use Rattle.run_texts.specs.Texts.{printed_of}
use Rattle.run_texts.specs.declared.record.RunRecord.{RunRecord}
use Rattle.bd_top.specs.declared.purpose.Purpose.TheVariants as purpose
use Rattle.bd_top.specs.declared.status.Status.{Status}
use Rattle.bd_top.specs.declared.status.Status.TheVariants as status
use Rattle.bd_top.specs.Plans.{IsCheckedPlan}
use Rattle.bd_top.specs.Words.{purpose_asked}

-- what turns go by
abbrev pub setup_of : Numbers → Setup
setup_of numbers = record { workers = numbers.workers; nodes = numbers.nodes; width = numbers.width; span = numbers.span }

-- the pieces of the last round, where the run ended dry; else none are told
abbrev pub pieces_told : Option End → List Piece → List Piece
pieces_told (Some end.Dry) pieces = pieces
pieces_told other pieces = []

-- the record of a core that turns led to, with what is told of the last round and how the run ended
abbrev pub improved_record : CoreView → List Piece → Option End → RunRecord
improved_record core pieces told = record {
  task = core.task;
  start = core.start;
  history = core.history;
  tree = core.tree;
  pieces = pieces;
  replies = [];
  end = told;
}

-- a run that ended did so dry or closed; one that did not end dry has no pieces
abbrev pub EndsAs : Setup → CoreView → List Piece → Option End → Type 0
EndsAs setup core pieces None = pieces ≡ []
EndsAs setup core pieces (Some end.Dry) = IsOver setup core pieces (Some end.Dry)
EndsAs setup core pieces (Some e) = IsOver setup core pieces (Some e) × (pieces ≡ [])

-- The run improves a list: it starts from a deordered tree of the list, its history is legal and replays to its tree, and each
-- rebuild left a tree in which each pair with nothing between has a reason. Where it ended, it did so dry or closed. At each
-- place each linearisation of the tree is valid.
pub record Improves (task : TaskView) (list : List ℕ) (numbers : Numbers) (run : RunRecord) : Type 0 where
  pub core : CoreView
  pub recorded : run ≡ improved_record core run.pieces run.end
  pub improved : IsImproved task list numbers.stop core
  pub ends : EndsAs (setup_of numbers) core run.pieces run.end

-- the words ask to improve the plan of three texts, which give a task and a valid plan, and the run improves it by the words' numbers
pub record IsImproveRun (words : List (List ℕ)) (tells : List ℕ → Told) (run : RunRecord) : Type 0 where
  pub numbers : Numbers
  pub asked : purpose_asked words ≡ Some (purpose.Improve numbers)
  pub cost : ℕ
  pub checked : IsCheckedPlan words tells cost
  pub improves : Improves checked.task checked.list numbers run

-- the run ended dry or closed, and `out` has received exactly its better plans and the summary
pub record IsImproveDone (words : List (List ℕ)) (tells : List ℕ → Told) (out notes : Taken) (run : RunRecord) : Type 0 where
  pub is_run : IsImproveRun words tells run
  pub over : IsOver (setup_of is_run.numbers) is_run.improves.core run.pieces run.end
  pub printed : Receives out (printed_of run)
  pub noted : IsSilent notes

-- `out` failed within what the run puts
pub record IsImproveCut (words : List (List ℕ)) (tells : List ℕ → Told) (out notes : Taken) (run : RunRecord) : Type 0 where
  pub is_run : IsImproveRun words tells run
  pub printed : IsCut out (printed_of run)
  pub noted : IsSilent notes

-- memory was wanting, and `out` has received a first part of what the run puts
pub record IsImprovePart (words : List (List ℕ)) (tells : List ℕ → Told) (out notes : Taken) (run : RunRecord) : Type 0 where
  pub is_run : IsImproveRun words tells run
  pub printed : ReceivesPart out (printed_of run)
  pub noted : IsSilent notes

-- what the improving of a list and the puts of its texts end with
abbrev pub TellsImproved : TaskView → List ℕ → Numbers → Taken → Status → Option RunRecord → Type 0
TellsImproved task list numbers out status.Done (Some run) =
    ((i : Improves task list numbers run) × IsOver (setup_of numbers) i.core run.pieces run.end) × Receives out (printed_of run)
TellsImproved task list numbers out status.WriteFault (Some run) = Improves task list numbers run × IsCut out (printed_of run)
TellsImproved task list numbers out status.NoMemory (Some run) = Improves task list numbers run × ReceivesPart out (printed_of run)
TellsImproved task list numbers out status.NoMemory None = IsSilent out
TellsImproved task list numbers out other run = ⊥
