use Rattle.std.proofs.Common.{◌≡◌, not}
use Rattle.std.specs.List.{find}
use Rattle.bd_base.specs.Facts.{has}
use Rattle.bd_links.proofs.judging.first_lacking.Given as goal

abbrev pub invariant-loop-p : goal.invariant-loop-p
invariant-loop-p l = find (λ p. not (has l.s p)) l.p-iterator ≡ find (λ p. not (has l.s p)) l.facts
