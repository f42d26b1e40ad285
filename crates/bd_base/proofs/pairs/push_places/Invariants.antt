use Rattle.std.proofs.Common.{◌≡◌, ◌++◌}
use Rattle.bd_base.specs.Rows.{pairs_with}
use Rattle.bd_base.proofs.pairs.push_places.Given as goal

abbrev pub invariant-loop-j : goal.invariant-loop-j
invariant-loop-j l = l.pairs.items ++ pairs_with l.i l.j-iterator ≡ l.initial.pairs.items ++ pairs_with l.i l.row
