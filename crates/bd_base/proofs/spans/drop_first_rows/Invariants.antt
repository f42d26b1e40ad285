use Rattle.std.proofs.Common.{◌≡◌, ℕ, List, ◌+◌, ◌≤◌, length}
use Rattle.bd_base.specs.Rows.{pairs_of, AreInTurn, AreSpans}
use Rattle.bd_base.proofs.spans.drop_first_rows.Given as goal

abbrev pub invariant-loop-spans : goal.invariant-loop-spans
invariant-loop-spans l = record {
  same : (words : List ℕ) → pairs_of words l.at l.spans.items ≡ pairs_of words l.first l.initial.spans.items;
  fits : (size : ℕ) → AreSpans size l.initial.spans.items → AreSpans size l.spans.items;
  in_turn : AreInTurn 0 l.initial.spans.items → AreInTurn 0 l.spans.items;
  few : l.at + length l.spans.items ≤ 8192;
}

abbrev pub decreases-loop-spans : goal.decreases-loop-spans
decreases-loop-spans l = length l.spans.items
