use Rattle.std.proofs.Common.{◌≡◌, ◌+◌, ◌≤◌, ◌++◌, length}
use Rattle.bd_base.specs.Rows.{pairs_of, pairs_with, AreSpans}
use Rattle.bd_base.proofs.rows.RowPairsIterator.next.Given as goal

abbrev pub invariant-loop-j : goal.invariant-loop-j
invariant-loop-j l = record {
  few : l.self-inside.at + length l.self-inside.spans.now ≤ 8192;
  fits : AreSpans (length l.self-inside.words.now) l.self-inside.spans.now;
  same : pairs_with l.self-inside.at l.self-inside.row ++ pairs_of l.self-inside.words.now (l.self-inside.at + 1) l.self-inside.spans.now
      ≡ pairs_with l.initial.self-inside.at l.initial.self-inside.row ++ pairs_of l.initial.self-inside.words.now (l.initial.self-inside.at + 1) l.initial.self-inside.spans.now;
}

abbrev pub decreases-loop-j : goal.decreases-loop-j
decreases-loop-j l = length l.self-inside.spans.now
