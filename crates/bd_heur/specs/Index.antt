-- An index of a task's actions: what each needs and adds, and which actions need a fact.
use Rattle.std.specs.Prelude.{◌≡◌, ◌<◌, ℕ, true, List, [], length, Option, Some, None, slice_get, Vec}
use Rattle.std.specs.Global.{Global}
use Rattle.bd_base.specs.Facts.{has, is_subset}
use Rattle.bd_task.specs.TaskView.{TaskView}
use Rattle.bd_task.specs.declared.ground.Action.{Action}
use Rattle.bd_heur.specs.declared.index.ActionIndex.{ActionIndex}
use Rattle.bd_heur.specs.declared.index.ActionRow.{ActionRow}

abbrev pub row_or_none : Option (Vec ℕ Global) → List ℕ
row_or_none None = []
row_or_none (Some row) = row.items

-- the row of a number: none past the end
abbrev pub row_at : List (Vec ℕ Global) → ℕ → List ℕ
row_at rows q = row_or_none (slice_get rows q)

-- the row is the action's
pub record IsRowOf (a : Action) (row : ActionRow) : Type 0 where
  pub cost : row.cost ≡ a.cost
  pub pre : row.pre.items ≡ a.pre
  pub add : row.add.items ≡ a.add

-- the rows are those of the first n actions
pub record AreRows (task : TaskView) (n : ℕ) (rows : List ActionRow) : Type 0 where
  pub len : length rows ≡ n
  pub each : (x : ℕ) (row : ActionRow) → slice_get rows x ≡ Some row → (a : Action) × (slice_get task.actions x ≡ Some a) × IsRowOf a row

-- of the first n actions, each stands in the row of each of its preconditions, or among the free ones where it has none
pub record AreNeeders (task : TaskView) (n : ℕ) (needers : List (Vec ℕ Global)) (free : List ℕ) : Type 0 where
  pub len : length needers ≡ length task.facts
  pub each : (x q : ℕ) (a : Action) → x < n → slice_get task.actions x ≡ Some a → has a.pre q ≡ true → has (row_at needers q) x ≡ true
  pub none : (x : ℕ) (a : Action) → x < n → slice_get task.actions x ≡ Some a → a.pre ≡ [] → has free x ≡ true

-- the index is the task's
pub record IsIndex (task : TaskView) (index : ActionIndex) : Type 0 where
  pub rows : AreRows task (length task.actions) index.rows.items
  pub needers : AreNeeders task (length task.actions) index.needers.items index.free.items

-- the action with the number runs in the state
abbrev pub IsRunnable : TaskView → List ℕ → ℕ → Type 0
IsRunnable task s x = (a : Action) × (slice_get task.actions x ≡ Some a) × (is_subset a.pre s ≡ true)
