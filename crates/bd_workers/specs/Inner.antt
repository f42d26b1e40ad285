-- Inner: serves this crate's own proofs alone.
-- What the steps of a round and of a turn go by.
use Rattle.std.specs.Prelude.{◌≡◌, ◌⊎◌, ℕ, Bool, true, false, if◌then◌else◌, List, [], ◌∷◌, ◌++◌, Option, Some, None, Result, Ok, Err, is_none}
use Rattle.bd_task.specs.TaskView.{TaskView}
use Rattle.bd_merge.specs.declared.window.Window.{Window}
use Rattle.bd_pieces.specs.Verdict.{IsTrueOf}
use Rattle.bd_pieces.specs.declared.judged.Verdict.{Verdict}
use Rattle.bd_search.specs.declared.verdict.Kind.{Kind}
use Rattle.bd_subtask.specs.declared.parts.SubTask.{SubTask}
use Rattle.bd_pieces.specs.declared.pieces.End.{End}
use Rattle.bd_pieces.specs.declared.pieces.End.TheVariants as end
use Rattle.bd_pieces.specs.declared.pieces.Piece.{Piece}
use Rattle.bd_window.specs.Family.{family_of}
use Rattle.plan_core.specs.Core.{CoreView}
use Rattle.plan_core.specs.declared.refusal.Refusal.{Refusal}
use Rattle.plan_core.specs.declared.refusal.Refusal.TheVariants.{NoMemory}
use Rattle.plan_rebuild.specs.Rebuilds.{closed}
use Rattle.bd_workers.specs.declared.parts.Setup.{Setup}
use Rattle.bd_workers.specs.Dry.{IsDry, AreJudgedIn}
use Rattle.bd_workers.specs.Round.{ArePieces}
use Rattle.bd_workers.specs.Turn.{adds_last, adds_since}
use Rattle.bd_workers.specs.declared.looking.View.{View}

-- whether it is want of memory
abbrev pub is_memory : Refusal → Bool
is_memory NoMemory = true
is_memory other = false

-- an open core whose last entry is no replacement of this turn is dry, and each window of its family was judged
pub record IsLeft (before : CoreView) (setup : Setup) (after : CoreView) (pieces : List Piece) : Type 0 where
  pub dry : closed after ≡ false → adds_last before after ≡ false →
      IsDry after.task after.tree setup.nodes setup.width setup.span × AreJudgedIn after.task after.tree setup.nodes (family_of setup.width after.tree) pieces

-- how a turn ends by its core alone, where the history had so many entries before
abbrev pub end_of : ℕ → CoreView → Option End
end_of n after = if closed after then Some end.Closed else (if adds_since n after then None else Some end.Dry)

-- whether another turn follows
abbrev pub goes_on : {A E : Type 0} → Result A E → Option End → Bool
goes_on (Ok pieces) told = is_none told
goes_on (Err memory) told = false

-- each verdict is true of the task and the budget
abbrev pub AreTrue : TaskView → ℕ → List Verdict → Type 0
AreTrue task nodes [] = Unit {0}
AreTrue task nodes (v ∷ vs) = IsTrueOf task v.sub nodes v.kind × AreTrue task nodes vs

-- what some verdicts tell of a subtask is true wherever they are
abbrev pub TellsOf : List Verdict → SubTask → Option Kind → Type 0
TellsOf verdicts sub None = Unit {0}
TellsOf verdicts sub (Some kind) = (task : TaskView) (nodes : ℕ) → AreTrue task nodes verdicts → IsTrueOf task sub nodes kind

-- these verdicts are true wherever those before and one more are
abbrev pub AreKept : List Verdict → Verdict → List Verdict → Type 0
AreKept before verdict after = (task : TaskView) (nodes : ℕ) → AreTrue task nodes before → IsTrueOf task verdict.sub nodes verdict.kind → AreTrue task nodes after

abbrev pub IsSameOrNone : List Verdict → List Verdict → Type 0
IsSameOrNone before after = (after ≡ before) ⊎ (after ≡ [])

-- what is seen is the core's task and tree
pub record Shows (view : View) (core : CoreView) : Type 0 where
  pub task : view.task.now ≡ core.task
  pub posing : view.posing ≡ record { task = core.task; root = core.tree }

-- some windows were taken, and a piece was put for each of them
pub record Walks (before after : CoreView) (nodes : ℕ) (left rest : List Window) (pieces more : List Piece) : Type 0 where
  pub done : List Window
  pub made : List Piece
  pub taken : left ≡ done ++ rest
  pub put : more ≡ pieces ++ made
  pub are : ArePieces before after nodes done made
