use Rattle.bd_tree.proofs.GapLemmas.{behind_row}
use Rattle.bd_tree.proofs.misfit.row_length.Goals as goal

pub returns-then-pairs-k-clause-behind : goal.returns-then-pairs-k-clause-behind
returns-then-pairs-k-clause-behind c = behind_row c.args.pairs.now c.args.i c.loop-k.k (0, 0) c.loop-k-test.true c.if-pairs-k.true
