use Rattle.std.proofs.Common.{◌≡◌, take}
use Rattle.bd_cut.specs.Cut.{renumbered}
use Rattle.bd_relevant.proofs.searching.renumbered.Given as goal

abbrev pub invariant-loop-k : goal.invariant-loop-k
invariant-loop-k l = l.whole.items ≡ renumbered l.numbers (take l.k-index l.list)
