use Rattle.std.proofs.Common.{◌≡◌, ◌*◌, drop}
use Rattle.std.specs.List.{list_any}
use Rattle.bd_base.specs.Bits.{row_of}
use Rattle.bd_base.specs.Facts.{has}
use Rattle.bd_base.proofs.word_sets.meet.Given as goal

abbrev pub invariant-loop-n : goal.invariant-loop-n
invariant-loop-n l = list_any (has (row_of 0 l.others)) (row_of (64 * l.n) (drop l.n l.words)) ≡ list_any (has (row_of 0 l.others)) (row_of 0 l.words)
