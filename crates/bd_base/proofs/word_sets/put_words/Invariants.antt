use Rattle.std.proofs.Common.{◌≡◌, ◌*◌, drop, length}
use Rattle.bd_base.specs.Bits.{row_of}
use Rattle.bd_base.specs.Facts.{plus}
use Rattle.bd_base.proofs.word_sets.put_words.Given as goal

abbrev pub invariant-loop-n : goal.invariant-loop-n
invariant-loop-n l = record {
  left : plus (row_of 0 l.words.items) (row_of (64 * l.n) (drop l.n l.others)) ≡ plus (row_of 0 l.initial.words.items) (row_of 0 l.others);
  len : length l.words.items ≡ length l.initial.words.items;
}
