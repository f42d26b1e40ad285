use Rattle.std.proofs.Common.{◌≡◌, ◌+◌, ◌≤◌, ◌^◌, ◌++◌, length}
use Rattle.bd_base.specs.Bits.{bits_of}
use Rattle.bd_base.specs.Cells.{cells_of, AreCells}
use Rattle.bd_base.proofs.cells.CellFactsIterator.next.Given as goal

abbrev pub invariant-loop-self : goal.invariant-loop-self
invariant-loop-self l = record {
  low : l.self-inside.base + 64 ≤ 2 ^ 32;
  fits : AreCells 0 (2 ^ 26) l.self-inside.rest.now;
  same : bits_of l.self-inside.base l.self-inside.left ++ cells_of l.self-inside.rest.now ≡ bits_of l.initial.self-inside.base l.initial.self-inside.left ++ cells_of l.initial.self-inside.rest.now;
}

abbrev pub decreases-loop-self : goal.decreases-loop-self
decreases-loop-self l = length l.self-inside.rest.now
