-- The way to an entry, along the origins of closed entries.
use Rattle.std.specs.Prelude.{◌≡◌, ℕ, ◌+◌, ◌<◌, ◌≤◌, List, length, Option, None, Some, slice_get}
use Rattle.bd_task.specs.TaskView.{TaskView}
use Rattle.bd_task.specs.Run.{run}
use Rattle.bd_task.specs.Valid.{cost_of}
use Rattle.bd_states.specs.Passed.{passed, Differs, AllDiffer}
use Rattle.bd_states.specs.Entries.{states_of, IsFrom}
use Rattle.bd_states.specs.declared.entry.Entry.{Entry}
use Rattle.bd_states.specs.declared.entry.Origin.{Origin}

-- each closed entry is one step behind an earlier one, and the entry one step behind one of them; their states differ
pub record AreLinked (task : TaskView) (closed : List Entry) (e : Entry) : Type 0 where
  pub from : IsFrom task closed (length closed) e.from e.state e.cost
  pub closed_from : (k : ℕ) (p : Entry) → slice_get closed k ≡ Some p → IsFrom task closed k p.from p.state p.cost
  pub apart : AllDiffer (states_of closed)
  pub new : Differs e.state (states_of closed)

-- the list leads to the entry's state at its cost and passes no state twice
pub record IsWay (task : TaskView) (e : Entry) (list : List ℕ) : Type 0 where
  pub ends : run task task.init list ≡ Some e.state
  pub cost : cost_of task list ≡ e.cost
  pub apart : AllDiffer (passed task task.init list)

-- the list from an entry on to the end: it runs there, its cost is what lacks, and it passes states that differ and
-- that none of the first n closed entries has
pub record IsTail (task : TaskView) (closed : List Entry) (end : Entry) (n : ℕ) (e : Entry) (list : List ℕ) : Type 0 where
  pub within : n ≤ length closed
  pub from : IsFrom task closed n e.from e.state e.cost
  pub ends : run task e.state list ≡ Some end.state
  pub cost : e.cost + cost_of task list ≡ end.cost
  pub apart : AllDiffer (passed task e.state list)
  pub others : (k : ℕ) (p : Entry) → k < n → slice_get closed k ≡ Some p → Differs p.state (passed task e.state list)

-- how many closed entries can stand before
abbrev pub places_before : Option Origin → ℕ
places_before None = 0
places_before (Some o) = o.place + 1
