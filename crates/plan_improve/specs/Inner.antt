-- Inner: serves this crate's own proofs alone.
-- What opening, following and telling go by.
use Rattle.std.specs.Prelude.{◌≡◌, ℕ, ◌+◌, Bool, true, false, List, [], ◌++◌, length, Option, None, Result, Ok, Err, is_none}
use Rattle.bd_task.specs.TaskView.{TaskView}
use Rattle.bd_deorder.specs.Deordered.{IsDeordered}
use Rattle.bd_pieces.specs.declared.pieces.End.{End}
use Rattle.bd_pieces.specs.declared.pieces.Piece.{Piece}
use Rattle.bd_workers.specs.Turn.{IsEnd}
use Rattle.bd_workers.specs.declared.parts.Setup.{Setup}
use Rattle.plan_core.specs.Core.{CoreView, opening}
use Rattle.plan_core.specs.declared.refusal.Refusal.{Refusal}
use Rattle.plan_core.specs.declared.refusal.Refusal.TheVariants as refusal
use Rattle.plan_rebuild.specs.Grown.{Grows}
use Rattle.run_texts.specs.Texts.{betters_of}
use Rattle.run_texts.specs.Taken.{Taken, Receives, ReceivesPart, HasFailed}
use Rattle.run_texts.specs.declared.putting.Stop.{Stop}
use Rattle.run_texts.specs.declared.putting.Stop.TheVariants as stop

-- whether it is want of memory
abbrev pub is_memory : Refusal → Bool
is_memory refusal.NoMemory = true
is_memory other = false

-- it opens on a deordered tree of the list
pub record IsOpened (task : TaskView) (list : List ℕ) (stop : ℕ) (core : CoreView) : Type 0 where
  pub starts : IsDeordered task list core.start
  pub is : core ≡ opening task core.start stop

-- where a text grew, a sink has received what came behind
pub record Tells (from to : List ℕ) (s : Taken) : Type 0 where
  pub piece : List ℕ
  pub grown : to ≡ from ++ piece
  pub received : Receives s piece

-- where a text grew, a sink has received a first part of what came behind
pub record TellsPart (from to : List ℕ) (s : Taken) : Type 0 where
  pub piece : List ℕ
  pub grown : to ≡ from ++ piece
  pub received : ReceivesPart s piece

abbrev pub TellsOn : List ℕ → List ℕ → Taken → Result (Unit {0}) Stop → Type 0
TellsOn from to s (Ok done) = Tells from to s
TellsOn from to s (Err stop.WriteFault) = TellsPart from to s × HasFailed s
TellsOn from to s (Err stop.NoMemory) = TellsPart from to s

-- the next entry was put; or what was put of it is a first part of all that comes
abbrev pub PutsNext : CoreView → CoreView → CoreView → Taken → Result (Unit {0}) Stop → Type 0
PutsNext before after lead s (Ok done) = Tells (betters_of before) (betters_of after) s
PutsNext before after lead s (Err why) = TellsOn (betters_of before) (betters_of lead) s (Err why)

-- one entry further behind the core that is followed
pub record IsNext (before after lead : CoreView) : Type 0 where
  pub grows : Grows after lead
  pub further : length after.history ≡ length before.history + 1

-- a turn that wasn't stopped ended as it is told; one that was has no end and no pieces
abbrev pub StepsSo : CoreView → Setup → CoreView → List Piece → Option End → Result (Unit {0}) Stop → Type 0
StepsSo before setup after pieces told (Ok done) = IsEnd before setup after pieces told
StepsSo before setup after pieces told (Err why) = (told ≡ None) × (pieces ≡ [])

-- whether another turn follows
abbrev pub goes_on : Result (Unit {0}) Stop → Option End → Bool
goes_on (Ok done) told = is_none told
goes_on (Err why) told = false
