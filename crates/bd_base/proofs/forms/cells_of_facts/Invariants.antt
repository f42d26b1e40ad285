use Rattle.std.proofs.Common.{◌≡◌, ◌^◌, [], take}
use Rattle.bd_base.specs.Cells.{AreCells, cells_of}
use Rattle.bd_base.specs.Facts.{plus}
use Rattle.bd_base.proofs.forms.cells_of_facts.Given as goal

abbrev pub invariant-loop-f : goal.invariant-loop-f
invariant-loop-f l = record {
  made : cells_of l.cells.items ≡ plus [] (take l.f-index l.facts);
  fits : AreCells 0 (2 ^ 26) l.cells.items;
}
