use Rattle.std.proofs.Common.{◌≡◌, ℕ, List, ◌≤◌, ◌-◌, max, length}
use Rattle.bd_base.specs.Rows.{pairs_of, AreInTurn, AreSpans}
use Rattle.bd_base.proofs.spans.pass_rows.Given as goal

abbrev pub invariant-loop-spans : goal.invariant-loop-spans
invariant-loop-spans l = record {
  same : (words : List ℕ) (i : ℕ) → pairs_of words i l.spans.items ≡ pairs_of words i l.initial.spans.items;
  fits : (size : ℕ) → AreSpans size l.initial.spans.items → AreSpans size l.spans.items;
  in_turn : (from : ℕ) → AreInTurn from l.initial.spans.items → AreInTurn from l.spans.items;
  few : length l.spans.items ≤ max (length l.initial.spans.items) l.n;
}

abbrev pub decreases-loop-spans : goal.decreases-loop-spans
decreases-loop-spans l = l.n - length l.spans.items
