use Rattle.std.proofs.Common.{◌≡◌, ◌≤◌, ◌^◌, take, drop, length}
use Rattle.bd_base.specs.Bits.{row_of}
use Rattle.bd_base.specs.Cells.{cells_of, AreCells}
use Rattle.bd_base.proofs.cells.words_from.Given as goal

abbrev pub invariant-loop-cell : goal.invariant-loop-cell
invariant-loop-cell l = record {
  made : row_of 0 l.words.items ≡ cells_of (take l.cell-index l.cells);
  short : length l.words.items ≤ 2 ^ 26;
  ahead : AreCells (length l.words.items) (2 ^ 26) (drop l.cell-index l.cells);
}
