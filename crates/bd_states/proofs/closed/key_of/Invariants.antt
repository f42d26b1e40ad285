use Rattle.std.proofs.Common.{◌≡◌, ◌++◌}
use Rattle.bd_states.proofs.closed.key_of.Given as goal

abbrev pub invariant-loop-f : goal.invariant-loop-f
invariant-loop-f l = l.key.items ++ l.f-iterator ≡ l.s
