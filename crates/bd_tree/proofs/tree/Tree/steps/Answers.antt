use Rattle.std.proofs.Common.{ap, arith}
use Rattle.bd_tree.specs.Tree.{nodes_of}
use Rattle.bd_tree.proofs.BoundLemmas.{steps_within}
use Rattle.bd_tree.proofs.tree.Tree.steps.Goals as goal

pub steps-requires : goal.steps-requires
steps-requires c = omega (arith, c.requires, ap nodes_of c.self.view_is, steps_within c.self.inside.root)
