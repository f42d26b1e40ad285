-- What is left of a round that changed nothing: dry trees.
use Rattle.std.specs.Prelude.{◌≡◌, ℕ, ◌<◌, List, [], ◌∷◌, length, Option, Some, None, Result, Ok, Err}
use Rattle.bd_task.specs.TaskView.{TaskView}
use Rattle.bd_tree.specs.declared.node.Node.{Node}
use Rattle.bd_tree.specs.Tree.{steps_of}
use Rattle.bd_merge.specs.declared.standing.Found.TheVariants.{At}
use Rattle.bd_merge.specs.declared.window.Window.{Window}
use Rattle.bd_merge.specs.Merged.{merged}
use Rattle.bd_merge.specs.Stands.{Stands}
use Rattle.bd_pieces.specs.Verdict.{IsTrueOf}
use Rattle.bd_pieces.specs.declared.judged.Verdict.{Verdict}
use Rattle.bd_pieces.specs.declared.pieces.Piece.{Piece}
use Rattle.bd_pieces.specs.declared.pieces.Refused.{Refused}
use Rattle.bd_pieces.specs.declared.pieces.What.{What}
use Rattle.bd_pieces.specs.declared.pieces.What.TheVariants.{Skipped, Judged}
use Rattle.bd_search.specs.declared.verdict.Kind.{Kind}
use Rattle.bd_search.specs.declared.verdict.Kind.TheVariants as kind
use Rattle.bd_subtask.specs.Subtask.{subtask_of}
use Rattle.bd_tight.specs.Candidates.{IsTight}
use Rattle.bd_window.specs.Family.{family_of}
use Rattle.bd_window.specs.Law.{AllStand}
use Rattle.plan_core.specs.Core.{CoreView}
use Rattle.plan_core.specs.Law.{IsCore}
use Rattle.plan_core.specs.Replies.{IsOpen, Refuses}
use Rattle.plan_core.specs.declared.offer.Offer.TheVariants.{Replace}
use Rattle.plan_core.specs.declared.refusal.Refusal.TheVariants.{NoMemory}
use Rattle.bd_workers.specs.Round.{IsRound, IsVerdictOn}

-- the core refuses the window's replacement by a list that was found
abbrev pub IsRefusedKind : CoreView → Window → Kind → Option (Result ℕ Refused) → Type 0
IsRefusedKind core window (kind.Found list) None = ⊥
IsRefusedKind core window (kind.Found list) (Some (Ok k)) = ⊥
IsRefusedKind core window (kind.Found list) (Some (Err refused)) = Refuses core (Replace window list) refused.why × (refused.why ≡ NoMemory → ⊥)
IsRefusedKind core window kind.Exhausted reply = reply ≡ None
IsRefusedKind core window (kind.Spent floor nodes) reply = reply ≡ None

pub record IsRefusedVerdict (core : CoreView) (window : Window) (nodes : ℕ) (verdict : Verdict) (reply : Option (Result ℕ Refused)) : Type 0 where
  pub stands : Stands core.tree window At
  pub holds : IsVerdictOn core.task core.tree window nodes verdict
  pub refused : IsRefusedKind core window verdict.kind reply

-- what became of a window on a core that took nothing: it doesn't stand, or a list that was found for it is refused
abbrev pub IsQuietWhat : CoreView → ℕ → Window → What → Type 0
IsQuietWhat core nodes window (Skipped found) = Stands core.tree window found × (found ≡ At → ⊥)
IsQuietWhat core nodes window (Judged verdict reply) = IsRefusedVerdict core window nodes verdict reply

abbrev pub AreQuiet : CoreView → ℕ → List Window → List Piece → Type 0
AreQuiet core nodes [] [] = Unit {0}
AreQuiet core nodes [] (p ∷ ps) = ⊥
AreQuiet core nodes (w ∷ ws) [] = ⊥
AreQuiet core nodes (w ∷ ws) (p ∷ ps) = ((p.place ≡ length core.history) × IsQuietWhat core nodes w p.what) × AreQuiet core nodes ws ps

-- a quiet round: where the history didn't grow, the core refuses what was found for each window that stands
abbrev pub QuietRound : Type 0
QuietRound = (before after : CoreView) (windows : List Window) (nodes : ℕ) (pieces : List Piece) →
    IsCore before → IsRound before windows nodes after pieces → after.history ≡ before.history → AreQuiet before nodes windows pieces

-- a window is done with where it is exhausted or its budget spent, or where what was found for it is too long
abbrev pub Settles : Node → Window → Kind → Type 0
Settles tree window (kind.Found list) = (next : ℕ) → 4_096 < steps_of (merged tree window list next)
Settles tree window kind.Exhausted = Unit {0}
Settles tree window (kind.Spent floor nodes) = Unit {0}

-- there is a true verdict on the window's subtask that leaves nothing to do
pub record IsDone (task : TaskView) (tree : Node) (nodes : ℕ) (window : Window) : Type 0 where
  pub verdict : Kind
  pub holds : IsTrueOf task (subtask_of task tree window) nodes verdict
  pub settles : Settles tree window verdict

abbrev pub AreDone : TaskView → Node → ℕ → List Window → Type 0
AreDone task tree nodes [] = Unit {0}
AreDone task tree nodes (w ∷ ws) = IsDone task tree nodes w × AreDone task tree nodes ws

-- the tree is tight at the span, and each window of its family at the width is done with
pub record IsDry (task : TaskView) (tree : Node) (nodes width span : ℕ) : Type 0 where
  pub tight : IsTight task tree span
  pub done : AreDone task tree nodes (family_of width tree)

-- each of the windows was judged in this tree, with a true verdict
abbrev pub IsJudgedIn : TaskView → Node → ℕ → Window → What → Type 0
IsJudgedIn task tree nodes window (Skipped found) = ⊥
IsJudgedIn task tree nodes window (Judged verdict reply) = IsVerdictOn task tree window nodes verdict

abbrev pub AreJudgedIn : TaskView → Node → ℕ → List Window → List Piece → Type 0
AreJudgedIn task tree nodes [] [] = Unit {0}
AreJudgedIn task tree nodes [] (p ∷ ps) = ⊥
AreJudgedIn task tree nodes (w ∷ ws) [] = ⊥
AreJudgedIn task tree nodes (w ∷ ws) (p ∷ ps) = IsJudgedIn task tree nodes w p.what × AreJudgedIn task tree nodes ws ps

-- an open core whose quiet round was over windows that stand: each of them is done with, and has a true verdict
abbrev pub QuietIsDone : Type 0
QuietIsDone = (core : CoreView) (windows : List Window) (nodes : ℕ) (pieces : List Piece) →
    IsCore core → IsOpen core → AllStand core.tree windows → AreQuiet core nodes windows pieces →
    AreDone core.task core.tree nodes windows × AreJudgedIn core.task core.tree nodes windows pieces
