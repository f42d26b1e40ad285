use Rattle.std.proofs.Common.{◌≡◌, ℕ, ◌<◌, ◌≤◌, false}
use Rattle.bd_base.specs.Facts.{IsRising, has}
use Rattle.bd_base.specs.Pairs.{is_before}
use Rattle.bd_base.proofs.rows.Rows.before.Given as goal

abbrev pub invariant-loop-i : goal.invariant-loop-i
invariant-loop-i l = record {
  rising : IsRising l.row;
  done : (k : ℕ) → k < l.i → has l.row k ≡ is_before l.self k l.j;
  left : (k : ℕ) → l.i ≤ k → has l.row k ≡ false;
}
