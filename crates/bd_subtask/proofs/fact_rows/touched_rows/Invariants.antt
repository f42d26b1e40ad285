use Rattle.std.proofs.Common.{◌≡◌, ℕ, [], drop, map, filter}
use Rattle.std.specs.List.{enumerate_from}
use Rattle.bd_base.specs.Facts.{plus}
use Rattle.bd_subtask.specs.declared.fact_rows.FactRow.{FactRow}
use Rattle.bd_subtask.specs.Level.{touched_rows, touches}
use Rattle.bd_subtask.proofs.fact_rows.touched_rows.Given as goal

abbrev pub invariant-loop-row : goal.invariant-loop-row
invariant-loop-row l = record {
  at : l.at ≡ l.row-index;
  put : plus l.places (map (λ (k : ℕ × FactRow). k.0) (filter (λ (k : ℕ × FactRow). touches l.kid k.1.fact) (enumerate_from l.at (drop l.row-index l.rows)))) ≡ plus [] (touched_rows l.rows l.kid);
}
