use Rattle.std.proofs.Common.{◌≡◌, drop, length}
use Rattle.bd_base.specs.Bits.{row_of}
use Rattle.bd_base.specs.Cells.{cells_of}
use Rattle.bd_base.specs.Facts.{plus}
use Rattle.bd_base.proofs.cells.put_cells.Given as goal

abbrev pub invariant-loop-cell : goal.invariant-loop-cell
invariant-loop-cell l = record {
  left : plus (row_of 0 l.words.items) (cells_of (drop l.cell-index l.cells)) ≡ plus (row_of 0 l.initial.words.items) (cells_of l.cells);
  len : length l.words.items ≡ length l.initial.words.items;
}
