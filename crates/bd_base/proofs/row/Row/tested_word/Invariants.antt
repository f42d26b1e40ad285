use Rattle.std.proofs.Common.{◌≡◌, ℕ, ◌+◌, ◌*◌, ◌<◌, ◌≤◌, eqb}
use Rattle.std.specs.Int.{bit_at}
use Rattle.bd_base.specs.Facts.{has}
use Rattle.bd_base.proofs.row.Row.tested_word.Given as goal

abbrev pub invariant-loop-b : goal.invariant-loop-b
invariant-loop-b l = record {
  done : (i : ℕ) → i < l.b → has l.self (64 * l.n + i) ≡ eqb (bit_at l.word i) 1;
  left : (i : ℕ) → l.b ≤ i → bit_at l.word i ≡ 0;
}
