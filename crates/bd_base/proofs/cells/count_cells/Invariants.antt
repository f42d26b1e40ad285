use Rattle.std.proofs.Common.{◌≡◌, ◌*◌, ◌≤◌, length, take}
use Rattle.bd_base.specs.Cells.{cells_of}
use Rattle.bd_base.proofs.cells.count_cells.Given as goal

abbrev pub invariant-loop-cell : goal.invariant-loop-cell
invariant-loop-cell l = record {
  counted : l.n ≡ length (cells_of (take l.cell-index l.cells));
  few : l.n ≤ 64 * l.cell-index;
}
