use Rattle.std.proofs.Common.{◌≡◌, ◌≤◌, ◌-◌, max, length}
use Rattle.bd_base.specs.Bits.{row_of}
use Rattle.bd_base.proofs.places.widen.Given as goal

abbrev pub invariant-loop-words : goal.invariant-loop-words
invariant-loop-words l = record {
  same : row_of 0 l.words.items ≡ row_of 0 l.initial.words.items;
  many : length l.initial.words.items ≤ length l.words.items;
  few : length l.words.items ≤ max (length l.initial.words.items) l.n;
}

abbrev pub decreases-loop-words : goal.decreases-loop-words
decreases-loop-words l = l.n - length l.words.items
