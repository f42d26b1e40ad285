use Rattle.std.proofs.Common.{Option, IfSome, length, subst}
use Rattle.bd_tree.specs.declared.node.Node.{Node}
use Rattle.bd_tight.specs.Gains.{Makes}
use Rattle.bd_tight.proofs.judging.gain_if.Goals as goal

pub is_better-requires-clause-below : goal.is_better-requires-clause-below
is_better-requires-clause-below c =
    let makes : Makes c.args.tree.now c.args.span (record { block = c.args.block; left = c.args.left.now; right = c.args.right.now }) c.in-Some.made =
    subst (λ (o : Option Node). IfSome o (λ t. Makes c.args.tree.now c.args.span (record { block = c.args.block; left = c.args.left.now; right = c.args.right.now }) t)) c.in-Some.is c.in_ok-made_tree.ensures.some in
    makes.below (length c.args.task.now.actions) c.requires.below
