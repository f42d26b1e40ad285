use Rattle.std.proofs.Common.{◌≡◌, length}
use Rattle.pddl_domain.specs.Heads.{count_from}
use Rattle.pddl_form.specs.Sight.{left}
use Rattle.pddl_domain.proofs.heads.count_at.Given as goal

abbrev pub invariant-loop-group : goal.invariant-loop-group
invariant-loop-group l = count_from l.count (left l.rest) ≡ count_from 0 (left l.list)

abbrev pub decreases-loop-group : goal.decreases-loop-group
decreases-loop-group l = length (left l.rest)
