use Rattle.std.proofs.Common.{ℕ, ◌<◌, ◌≤◌, ◌-◌, length}
use Rattle.std.specs.List.{slice_index_or}
use Rattle.bd_base.specs.declared.cells.Cell.{Cell}
use Rattle.bd_base.proofs.cells.place_of.Given as goal

abbrev pub invariant-loop-low : goal.invariant-loop-low
invariant-loop-low l = record {
  order : l.low ≤ l.high;
  within : l.high ≤ length l.cells;
  below : (k : ℕ) (d : Cell) → k < l.low → (slice_index_or l.cells k d).number < l.number;
  above : (k : ℕ) (d : Cell) → l.high ≤ k → k < length l.cells → l.number ≤ (slice_index_or l.cells k d).number;
}

abbrev pub decreases-loop-low : goal.decreases-loop-low
decreases-loop-low l = l.high - l.low
