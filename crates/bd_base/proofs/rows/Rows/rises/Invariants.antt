use Rattle.std.proofs.Common.{◌≡◌, ◌+◌, drop}
use Rattle.bd_base.specs.Pairs.{have_rising_pairs}
use Rattle.bd_base.specs.Rows.{pairs_of}
use Rattle.bd_base.proofs.rows.Rows.rises.Given as goal

abbrev pub invariant-loop-k : goal.invariant-loop-k
invariant-loop-k l =
    have_rising_pairs (pairs_of l.self-inside.words.items (l.self-inside.first + l.k) (drop l.k l.self-inside.spans.items)) ≡ have_rising_pairs (pairs_of l.self-inside.words.items l.self-inside.first l.self-inside.spans.items)
