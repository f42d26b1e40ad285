use Rattle.std.proofs.Common.{◌≡◌}
use Rattle.bd_base.specs.Facts.{plus}
use Rattle.bd_base.proofs.owned_row.OwnedRow.put_each.Given as goal

abbrev pub invariant-loop-at : goal.invariant-loop-at
invariant-loop-at l = plus l.self l.at-iterator ≡ plus l.initial.self l.of
