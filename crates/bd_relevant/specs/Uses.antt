-- Inner: serves this crate's own proofs alone.
-- What the actions use and delete that add a relevant fact, and those actions cut down.
use Rattle.std.specs.Prelude.{◌≡◌, ℕ, ◌<◌, ◌≤◌, true, List, length, Some, slice_get}
use Rattle.bd_base.specs.Facts.{has}
use Rattle.bd_task.specs.TaskView.{TaskView, AreActions}
use Rattle.bd_task.specs.declared.ground.Action.{Action}
use Rattle.bd_cut.specs.Cut.{cut_action, is_kept, IsKept}

-- what an action uses and deletes is put into two sets, if it adds a relevant fact
pub record TakesUses (relevant : List ℕ) (a : Action) (used deleted more gone : List ℕ) : Type 0 where
  pub stays : (q : ℕ) → has used q ≡ true → has more q ≡ true
  pub stays_gone : (q : ℕ) → has deleted q ≡ true → has gone q ≡ true
  pub needs : is_kept relevant a ≡ true → (q : ℕ) → has a.pre q ≡ true → has more q ≡ true
  pub deletes : is_kept relevant a ≡ true → (q : ℕ) → has a.del q ≡ true → has gone q ≡ true

-- the first set has the goal facts and the preconditions of the kept ones of the first n actions, the second one what these delete
pub record AreUses (task : TaskView) (relevant : List ℕ) (n : ℕ) (used deleted : List ℕ) : Type 0 where
  pub goal : (q : ℕ) → has task.goal q ≡ true → has used q ≡ true
  pub needed : (x : ℕ) (a : Action) (q : ℕ) → x < n → IsKept task relevant x a → has a.pre q ≡ true → has used q ≡ true
  pub gone : (x : ℕ) (a : Action) (q : ℕ) → x < n → IsKept task relevant x a → has a.del q ≡ true → has deleted q ≡ true

-- the kept ones of the first n actions, cut down, with their numbers
pub record AreCutActions (task : TaskView) (relevant : List ℕ) (n : ℕ) (numbers : List ℕ) (actions : List Action) : Type 0 where
  pub same : length numbers ≡ length actions
  pub few : length actions ≤ n
  pub some : (k x : ℕ) → slice_get numbers k ≡ Some x → (a : Action) × IsKept task relevant x a × (slice_get actions k ≡ Some (cut_action relevant a))
  pub all : (x : ℕ) (a : Action) → x < n → IsKept task relevant x a → (k : ℕ) × (slice_get numbers k ≡ Some x)
  pub fit : AreActions (length task.facts) actions
