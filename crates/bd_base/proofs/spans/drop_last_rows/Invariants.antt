use Rattle.std.proofs.Common.{◌≡◌, ℕ, List, ◌≤◌, length}
use Rattle.bd_base.specs.Rows.{pairs_of, AreInTurn, AreSpans}
use Rattle.bd_base.proofs.spans.drop_last_rows.Given as goal

abbrev pub invariant-loop-spans : goal.invariant-loop-spans
invariant-loop-spans l = record {
  same : (words : List ℕ) (i : ℕ) → pairs_of words i l.spans.items ≡ pairs_of words i l.initial.spans.items;
  fits : (size : ℕ) → AreSpans size l.initial.spans.items → AreSpans size l.spans.items;
  in_turn : (from : ℕ) → AreInTurn from l.initial.spans.items → AreInTurn from l.spans.items;
  few : length l.spans.items ≤ length l.initial.spans.items;
}

abbrev pub decreases-loop-spans : goal.decreases-loop-spans
decreases-loop-spans l = length l.spans.items
