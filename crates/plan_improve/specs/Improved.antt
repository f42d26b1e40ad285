-- A run of turns: where it starts, how it grows, how it ends, and what a sink has received of it.
use Rattle.std.specs.Prelude.{◌≡◌, ℕ, List, [], Option, None, Result, Ok, Err}
use Rattle.bd_task.specs.TaskView.{TaskView}
use Rattle.bd_deorder.specs.Deordered.{IsDeordered}
use Rattle.bd_pieces.specs.declared.pieces.End.{End}
use Rattle.bd_pieces.specs.declared.pieces.Piece.{Piece}
use Rattle.bd_workers.specs.Turn.{IsOver}
use Rattle.bd_workers.specs.declared.parts.Setup.{Setup}
use Rattle.plan_core.specs.Core.{CoreView, opening}
use Rattle.plan_core.specs.Law.{IsLawful, OpensOn}
use Rattle.plan_rebuild.specs.Rebuilds.{GrowsRightly}
use Rattle.run_texts.specs.Texts.{betters_of}
use Rattle.run_texts.specs.Taken.{Taken, Receives, ReceivesPart, IsCut}
use Rattle.run_texts.specs.declared.putting.Stop.{Stop}
use Rattle.run_texts.specs.declared.putting.Stop.TheVariants as stop

-- The core opened on a deordered tree of the list, and grew by accepted offers; each rebuild left a tree in which each pair with
-- nothing between has a reason; and all holds of it that holds of every core.
pub record IsImproved (task : TaskView) (list : List ℕ) (stop : ℕ) (core : CoreView) : Type 0 where
  pub starts : IsDeordered task list core.start
  pub opens : OpensOn task core.start stop core
  pub grows : GrowsRightly (opening task core.start stop) core
  pub lawful : IsLawful core

-- a run that nothing stopped ended dry or closed, with the pieces of its last round; one that was stopped has no end and no pieces
abbrev pub EndsSo : Setup → CoreView → List Piece → Option End → Result (Unit {0}) Stop → Type 0
EndsSo setup core pieces told (Ok done) = IsOver setup core pieces told
EndsSo setup core pieces told (Err why) = (told ≡ None) × (pieces ≡ [])

-- a sink has received the better texts of the history; or a first part of them, where it failed or memory was wanting
abbrev pub TellsBetter : CoreView → Taken → Result (Unit {0}) Stop → Type 0
TellsBetter core s (Ok done) = Receives s (betters_of core)
TellsBetter core s (Err stop.WriteFault) = IsCut s (betters_of core)
TellsBetter core s (Err stop.NoMemory) = ReceivesPart s (betters_of core)
