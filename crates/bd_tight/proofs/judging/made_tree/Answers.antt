use Rattle.std.proofs.Common.{Option, IfSome, subst}
use Rattle.bd_tree.specs.declared.node.Node.{Node}
use Rattle.bd_tight.specs.Gains.{MakesBoth}
use Rattle.bd_tight.proofs.MadeLemmas.{made}
use Rattle.bd_tight.proofs.judging.made_tree.Goals as goal

pub returns-in_ok-made-in-Some-clause-some : goal.returns-in_ok-made-in-Some-clause-some
returns-in_ok-made-in-Some-clause-some c =
    made c.args.tree.now c.args.span (record { block = c.args.block; left = c.args.left.now; right = c.args.right.now }) c.in-Some.both c.in_ok-made-in-Some.made
    (subst (λ (o : Option Node). IfSome o (λ t. MakesBoth c.args.tree.now c.args.span (record { block = c.args.block; left = c.args.left.now; right = c.args.right.now }) t)) c.in-Some.is c.in_ok-grouped_sides.ensures.some)
    c.fresh_of.result c.fresh_of.ensures.fresh c.in_ok-made-in-Some.ensures.tree c.in_ok-made-in-Some.ensures.alike c.in_ok-made-in-Some.ensures.nodes
