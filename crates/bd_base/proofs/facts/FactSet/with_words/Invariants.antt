use Rattle.std.proofs.Common.{◌≡◌, ◌*◌, drop}
use Rattle.bd_base.specs.Bits.{row_of}
use Rattle.bd_base.specs.Facts.{plus}
use Rattle.bd_base.proofs.facts.FactSet.with_words.Given as goal

abbrev pub invariant-loop-n : goal.invariant-loop-n
invariant-loop-n l = plus l.set (row_of (64 * l.n) (drop l.n l.words)) ≡ plus l.self (row_of 0 l.words)
