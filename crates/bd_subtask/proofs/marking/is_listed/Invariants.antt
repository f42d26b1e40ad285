use Rattle.std.proofs.Common.{◌≡◌}
use Rattle.bd_base.specs.Facts.{has}
use Rattle.bd_subtask.proofs.marking.is_listed.Given as goal

abbrev pub invariant-loop-j : goal.invariant-loop-j
invariant-loop-j l = has l.j-iterator l.at ≡ has l.row l.at
