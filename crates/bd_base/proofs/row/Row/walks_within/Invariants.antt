use Rattle.std.proofs.Common.{◌≡◌}
use Rattle.bd_base.specs.Facts.{is_subset}
use Rattle.bd_base.proofs.row.Row.walks_within.Given as goal

abbrev pub invariant-loop-at : goal.invariant-loop-at
invariant-loop-at l = is_subset l.at-iterator l.of ≡ is_subset l.self l.of
