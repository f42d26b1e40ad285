use Rattle.std.proofs.Common.{◌≡◌}
use Rattle.std.specs.List.{find}
use Rattle.bd_base.specs.Facts.{has}
use Rattle.bd_links.proofs.in_turn.first_among.Given as goal

abbrev pub invariant-loop-p : goal.invariant-loop-p
invariant-loop-p l = find (has l.s) l.p-iterator ≡ find (has l.s) l.facts
