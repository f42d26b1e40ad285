use Rattle.std.proofs.Common.{◌≡◌, ◌*◌, drop}
use Rattle.bd_base.specs.Bits.{row_of}
use Rattle.bd_base.specs.Facts.{is_subset}
use Rattle.bd_base.proofs.word_sets.words_within.Given as goal

abbrev pub invariant-loop-n : goal.invariant-loop-n
invariant-loop-n l = is_subset (row_of (64 * l.n) (drop l.n l.words)) (row_of 0 l.others) ≡ is_subset (row_of 0 l.words) (row_of 0 l.others)
