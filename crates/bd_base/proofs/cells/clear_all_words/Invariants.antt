use Rattle.std.proofs.Common.{◌≡◌, ◌*◌, ◌^◌, drop}
use Rattle.bd_base.specs.Bits.{row_of}
use Rattle.bd_base.specs.Cells.{AreCells, cells_of}
use Rattle.bd_base.specs.Facts.{minus}
use Rattle.bd_base.proofs.cells.clear_all_words.Given as goal

abbrev pub invariant-loop-n : goal.invariant-loop-n
invariant-loop-n l = record {
  left : minus (cells_of l.cells.items) (row_of (64 * l.n) (drop l.n l.words)) ≡ minus (cells_of l.initial.cells.items) (row_of 0 l.words);
  fits : AreCells 0 (2 ^ 26) l.cells.items;
}
