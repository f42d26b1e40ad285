use Rattle.std.proofs.Common.{◌≡◌, take}
use Rattle.bd_base.specs.Bits.{row_of}
use Rattle.bd_base.specs.Cells.{cells_of, AreCells}
use Rattle.bd_base.proofs.cells.cells_from.Given as goal

abbrev pub invariant-loop-n : goal.invariant-loop-n
invariant-loop-n l = record {
  made : cells_of l.cells.items ≡ row_of 0 (take l.n l.words);
  fits : AreCells 0 l.n l.cells.items;
}
