use Rattle.std.proofs.Common.{◌≡◌, ◌+◌, count_by, drop}
use Rattle.plan_core.specs.Core.{is_rebuild}
use Rattle.plan_core.proofs.judge.rebuilds.Given as goal

abbrev pub invariant-loop-offer : goal.invariant-loop-offer
invariant-loop-offer l = l.count + count_by is_rebuild (drop l.offer-index l.history) ≡ count_by is_rebuild l.history
