-- What a cut task keeps of what runs, and of relaxed values. So the values and the runnable actions of the whole task, which
-- many cut tasks share, serve a search of each of them.
use Rattle.std.specs.Prelude.{◌≡◌, ℕ, true, false, List, length, Some, slice_get}
use Rattle.bd_base.specs.Facts.{has, is_subset}
use Rattle.bd_task.specs.TaskView.{TaskView}
use Rattle.bd_task.specs.Run.{after}
use Rattle.bd_task.specs.declared.ground.Action.{Action}
use Rattle.bd_heur.specs.Relaxed.{relaxed_value, goal_value}
use Rattle.bd_heur.specs.declared.join.Join.{Join}
use Rattle.bd_cut.specs.Cut.{cut_set, cut_action, IsKept, IsUsed}

-- the state has each used fact that isn't relevant
abbrev pub HasTheRest : TaskView → List ℕ → List ℕ → Type 0
HasTheRest task relevant s = (q : ℕ) → IsUsed task relevant q → has relevant q ≡ false → has s q ≡ true

-- of a state's relevant facts the cut task says what the whole task says of the state: which of its actions run, what each
-- relevant fact costs after any number of rounds, and what the goal costs
pub record KeepsValues (task cut : TaskView) (relevant numbers s : List ℕ) : Type 0 where
  pub runs : (k x : ℕ) (a : Action) → slice_get numbers k ≡ Some x → IsKept task relevant x a → is_subset (cut_action relevant a).pre (cut_set relevant s) ≡ is_subset a.pre s
  pub facts : (join : Join) (k p : ℕ) → has relevant p ≡ true → relaxed_value join cut (cut_set relevant s) k p ≡ relaxed_value join task s k p
  pub goal : (join : Join) → length cut.facts ≡ length task.facts → goal_value join cut (cut_set relevant s) ≡ goal_value join task s

-- the start has the rest, and so has each state that kept actions lead to
pub record KeepsTheRest (task : TaskView) (relevant : List ℕ) : Type 0 where
  pub start : HasTheRest task relevant task.init
  pub leads : (x : ℕ) (a : Action) (s : List ℕ) → IsKept task relevant x a → HasTheRest task relevant s → HasTheRest task relevant (after a s)
