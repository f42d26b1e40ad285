use Rattle.std.proofs.Common.{◌≡◌, true, eqb, take}
use Rattle.std.specs.List.{list_all}
use Rattle.bd_tree.proofs.misfit.row_length.Given as goal

abbrev pub invariant-loop-k : goal.invariant-loop-k
invariant-loop-k l = list_all (λ p. eqb p.0 l.i) (take l.k l.pairs) ≡ true
