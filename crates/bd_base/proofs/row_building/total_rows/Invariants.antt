use Rattle.std.proofs.Common.{◌≡◌, ◌≤◌, ◌+◌, ◌-◌, ◌++◌, length, min}
use Rattle.bd_base.specs.Bits.{row_of, upto}
use Rattle.bd_base.specs.Pairs.{in_turn, total_order}
use Rattle.bd_base.proofs.row_building.total_rows.Given as goal

abbrev pub invariant-loop-i : goal.invariant-loop-i
invariant-loop-i l = record {
  row : row_of 0 l.row.items ≡ upto (min l.n (l.i + 1)) (l.n - min l.n (l.i + 1));
  short : length l.row.items ≤ 128;
  made : l.rows ++ in_turn l.i (l.n - l.i) ≡ total_order l.n;
}
