use Rattle.std.proofs.Common.{◌≡◌, ◌≤◌, length}
use Rattle.pddl_form.specs.Number.{most, value_from, value_of}
use Rattle.pddl_form.proofs.number.value_of.Given as goal

abbrev pub invariant-loop-b : goal.invariant-loop-b
invariant-loop-b l = record { small : l.value ≤ most; same : value_from l.some l.value l.rest ≡ value_of l.word }

abbrev pub decreases-loop-b : goal.decreases-loop-b
decreases-loop-b l = length l.rest
