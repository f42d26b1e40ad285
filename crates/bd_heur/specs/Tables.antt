-- Tables of values, one for each fact.
use Rattle.std.specs.Prelude.{◌≡◌, ℕ, ◌<◌, List, length, Option, Some, None, slice_get}
use Rattle.bd_task.specs.TaskView.{TaskView}
use Rattle.bd_heur.specs.declared.join.Join.{Join}
use Rattle.bd_heur.specs.Relaxed.{relaxed_value}

abbrev pub value_or_none : Option (Option ℕ) → Option ℕ
value_or_none None = None
value_or_none (Some value) = value

-- the value of a fact in a table: none past its end
abbrev pub value_in : List (Option ℕ) → ℕ → Option ℕ
value_in table p = value_or_none (slice_get table p)

-- the table has the values after k rounds
pub record HasRounds (join : Join) (task : TaskView) (s : List ℕ) (k : ℕ) (table : List (Option ℕ)) : Type 0 where
  pub len : length table ≡ length task.facts
  pub values : (p : ℕ) → p < length task.facts → value_in table p ≡ relaxed_value join task s k p
