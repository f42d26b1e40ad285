-- What a round leaves: a core whose history grew, and a piece for each window that is true at its place.
use Rattle.std.specs.Prelude.{◌≡◌, ℕ, ◌+◌, ◌≤◌, List, [], ◌∷◌, length, slice_get, Option, Some, None, Result, Ok, Err}
use Rattle.bd_task.specs.TaskView.{TaskView}
use Rattle.bd_tree.specs.declared.node.Node.{Node}
use Rattle.bd_merge.specs.declared.standing.Found.TheVariants.{At}
use Rattle.bd_merge.specs.declared.window.Window.{Window}
use Rattle.bd_merge.specs.Stands.{Stands}
use Rattle.bd_pieces.specs.Verdict.{IsTrueOf}
use Rattle.bd_pieces.specs.declared.judged.Verdict.{Verdict}
use Rattle.bd_pieces.specs.declared.pieces.Piece.{Piece}
use Rattle.bd_pieces.specs.declared.pieces.Refused.{Refused}
use Rattle.bd_pieces.specs.declared.pieces.What.{What}
use Rattle.bd_pieces.specs.declared.pieces.What.TheVariants.{Skipped, Judged}
use Rattle.bd_search.specs.declared.verdict.Kind.{Kind}
use Rattle.bd_search.specs.declared.verdict.Kind.TheVariants as kind
use Rattle.bd_subtask.specs.Subtask.{subtask_of}
use Rattle.plan_core.specs.Core.{CoreView, is_replacement}
use Rattle.plan_core.specs.Law.{tree_at}
use Rattle.plan_core.specs.Replies.{Refuses}
use Rattle.plan_core.specs.declared.offer.Offer.{Offer}
use Rattle.plan_core.specs.declared.offer.Offer.TheVariants.{Replace}
use Rattle.plan_rebuild.specs.Grown.{Adds, core_at}
use Rattle.plan_core.specs.declared.refusal.Refusal.TheVariants.{NoMemory}

-- the verdict speaks of the window's subtask in this tree, and is true of it with this budget
pub record IsVerdictOn (task : TaskView) (tree : Node) (window : Window) (nodes : ℕ) (verdict : Verdict) : Type 0 where
  pub sub : verdict.sub ≡ subtask_of task tree window
  pub holds : IsTrueOf task verdict.sub nodes verdict.kind

-- an offer was refused behind so many entries, no earlier than this place: why is the reply on the replay of these entries
pub record WasRefused (core : CoreView) (place : ℕ) (offer : Offer) (refused : Refused) : Type 0 where
  pub late : place ≤ refused.place
  pub early : refused.place ≤ length core.history
  pub why : Refuses (core_at core refused.place) offer refused.why
  pub told : refused.why ≡ NoMemory → ⊥

-- an offer was accepted as the k-th entry, behind this place
pub record WasAccepted (core : CoreView) (place : ℕ) (offer : Offer) (k : ℕ) : Type 0 where
  pub index : ℕ
  pub is : k ≡ index + 1
  pub late : place ≤ index
  pub entry : slice_get core.history index ≡ Some offer

-- the reply to an offer that was made behind a place, as the history tells it
abbrev pub WasTold : CoreView → ℕ → Offer → Result ℕ Refused → Type 0
WasTold core place offer (Ok k) = WasAccepted core place offer k
WasTold core place offer (Err refused) = WasRefused core place offer refused

-- there is a reply exactly where a list was found: the one to its replacement of the window
abbrev pub RepliesTo : CoreView → ℕ → Window → Kind → Option (Result ℕ Refused) → Type 0
RepliesTo core place window (kind.Found list) (Some reply) = WasTold core place (Replace window list) reply
RepliesTo core place window (kind.Found list) None = ⊥
RepliesTo core place window kind.Exhausted (Some reply) = ⊥
RepliesTo core place window kind.Exhausted None = Unit {0}
RepliesTo core place window (kind.Spent floor nodes) (Some reply) = ⊥
RepliesTo core place window (kind.Spent floor nodes) None = Unit {0}

pub record WasJudged (core : CoreView) (place : ℕ) (window : Window) (nodes : ℕ) (verdict : Verdict) (reply : Option (Result ℕ Refused)) : Type 0 where
  pub stands : Stands (tree_at core place) window At
  pub holds : IsVerdictOn core.task (tree_at core place) window nodes verdict
  pub replies : RepliesTo core place window verdict.kind reply

-- what became of a window that was looked at behind a place: it doesn't stand there, or it was judged there
abbrev pub IsWhat : CoreView → ℕ → Window → ℕ → What → Type 0
IsWhat core place window nodes (Skipped found) = Stands (tree_at core place) window found × (found ≡ At → ⊥)
IsWhat core place window nodes (Judged verdict reply) = WasJudged core place window nodes verdict reply

-- a piece of a window, between two cores
pub record IsPiece (before after : CoreView) (nodes : ℕ) (window : Window) (piece : Piece) : Type 0 where
  pub since : length before.history ≤ piece.place
  pub till : piece.place ≤ length after.history
  pub what : IsWhat after piece.place window nodes piece.what

-- one piece for each window, in their order
abbrev pub ArePieces : CoreView → CoreView → ℕ → List Window → List Piece → Type 0
ArePieces before after nodes [] [] = Unit {0}
ArePieces before after nodes [] (p ∷ ps) = ⊥
ArePieces before after nodes (w ∷ ws) [] = ⊥
ArePieces before after nodes (w ∷ ws) (p ∷ ps) = IsPiece before after nodes w p × ArePieces before after nodes ws ps

-- a round over these windows leads from a core to another with these pieces; all that it adds are replacements
pub record IsRound (before : CoreView) (windows : List Window) (nodes : ℕ) (after : CoreView) (pieces : List Piece) : Type 0 where
  pub adds : Adds is_replacement before after
  pub are : ArePieces before after nodes windows pieces
