use Rattle.std.proofs.Common.{◌≡◌, not}
use Rattle.std.specs.List.{find}
use Rattle.bd_links.specs.Faults.{holds_after}
use Rattle.bd_links.proofs.judging.first_missed.Given as goal

abbrev pub invariant-loop-g : goal.invariant-loop-g
invariant-loop-g l = find (λ g. not (holds_after l.init l.root.effects g)) l.g-iterator ≡ find (λ g. not (holds_after l.init l.root.effects g)) l.goal
