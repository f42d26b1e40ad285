use Rattle.std.proofs.Common.{◌≡◌, ◌*◌, ◌-◌, min, length}
use Rattle.bd_base.specs.Bits.{row_of, upto}
use Rattle.bd_base.specs.Facts.{plus}
use Rattle.bd_base.proofs.word_sets.put_run.Given as goal

abbrev pub invariant-loop-w : goal.invariant-loop-w
invariant-loop-w l = record {
  put : row_of 0 l.words.items ≡ plus (row_of 0 l.initial.words.items) (upto l.from (min (64 * l.w) l.to - l.from));
  len : length l.words.items ≡ length l.initial.words.items;
}
