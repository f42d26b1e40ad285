use Rattle.std.proofs.Common.{◌≡◌, ◌+◌, count_by, drop}
use Rattle.plan_core.specs.Core.{is_tightening}
use Rattle.plan_core.proofs.judge.tightenings.Given as goal

abbrev pub invariant-loop-offer : goal.invariant-loop-offer
invariant-loop-offer l = l.count + count_by is_tightening (drop l.offer-index l.history) ≡ count_by is_tightening l.history
