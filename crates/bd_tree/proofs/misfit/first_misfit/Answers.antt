use Rattle.std.proofs.Common.{arith}
use Rattle.bd_tree.proofs.BoundLemmas.{depth_within}
use Rattle.bd_tree.proofs.misfit.first_misfit.Goals as goal

pub depth-depth-requires : goal.depth-depth-requires
depth-depth-requires c = omega (arith, c.requires, depth_within c.args.root.now)
