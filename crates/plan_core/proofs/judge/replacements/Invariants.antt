use Rattle.std.proofs.Common.{◌≡◌, ◌+◌, count_by, drop}
use Rattle.plan_core.specs.Core.{is_replacement}
use Rattle.plan_core.proofs.judge.replacements.Given as goal

abbrev pub invariant-loop-offer : goal.invariant-loop-offer
invariant-loop-offer l = l.count + count_by is_replacement (drop l.offer-index l.history) ≡ count_by is_replacement l.history
