use Rattle.std.proofs.Common.{◌≡◌, ◌≤◌, length, take}
use Rattle.bd_base.specs.Bits.{row_of}
use Rattle.bd_base.proofs.places.trimmed.Given as goal

abbrev pub invariant-loop-last : goal.invariant-loop-last
invariant-loop-last l = record {
  same : row_of 0 l.kept ≡ row_of 0 l.words;
  short : length l.kept ≤ length l.words;
  part : l.kept ≡ take (length l.kept) l.words;
}

abbrev pub decreases-loop-last : goal.decreases-loop-last
decreases-loop-last l = length l.kept
