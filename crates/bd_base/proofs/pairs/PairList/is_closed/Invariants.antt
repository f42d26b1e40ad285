use Rattle.std.proofs.Common.{◌≡◌}
use Rattle.std.specs.List.{list_all}
use Rattle.bd_base.proofs.ClosedLemmas.{closes}
use Rattle.bd_base.proofs.pairs.PairList.is_closed.Given as goal

abbrev pub invariant-loop-p : goal.invariant-loop-p
invariant-loop-p l = list_all (closes l.self) l.p-iterator ≡ list_all (closes l.self) l.self
