use Rattle.std.proofs.Common.{◌≡◌, ℕ, ◌<◌, ◌≤◌, ◌/◌, ◌&&◌, length}
use Rattle.bd_base.specs.Bits.{row_of}
use Rattle.bd_base.specs.Facts.{has}
use Rattle.bd_base.proofs.owned_row.meet_row.Given as goal

abbrev pub invariant-loop-n : goal.invariant-loop-n
invariant-loop-n l = record {
  done : (q : ℕ) → q / 64 < l.n → has (row_of 0 l.words.items) q ≡ (has l.of q && has (row_of 0 l.initial.words.items) q);
  left : (q : ℕ) → l.n ≤ q / 64 → has (row_of 0 l.words.items) q ≡ has (row_of 0 l.initial.words.items) q;
  len : length l.words.items ≡ length l.initial.words.items;
}
