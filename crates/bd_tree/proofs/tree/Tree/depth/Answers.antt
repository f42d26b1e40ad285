use Rattle.std.proofs.Common.{ap, arith}
use Rattle.bd_tree.specs.Tree.{nodes_of}
use Rattle.bd_tree.proofs.BoundLemmas.{depth_within}
use Rattle.bd_tree.proofs.tree.Tree.depth.Goals as goal

pub depth-requires : goal.depth-requires
depth-requires c = omega (arith, c.requires, ap nodes_of c.self.view_is, depth_within c.self.inside.root)
