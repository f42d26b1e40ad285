use Rattle.std.proofs.Common.{◌≡◌, None, sym}
use Rattle.bd_tree.specs.Tree.{find_in}
use Rattle.bd_shape.proofs.CanLemmas.{cannot_unorder, unorder_by}
use Rattle.bd_shape.proofs.conditions.can_unorder.Goals as goal

pub returns-in-None : goal.returns-in-None
returns-in-None c =
    let missing : find_in c.args.block c.args.tree.now ≡ None = sym c.in-None.ensures.found in
    (λ t. absurd (cc), λ can. absurd (cannot_unorder c.args.tree.now c.args.block missing c.args.i c.args.j can))

pub returns-in-Some : goal.returns-in-Some
returns-in-Some c = unorder_by c.args.tree.now c.args.block c.in-Some.node.now (sym c.in-Some.ensures.found) c.args.i c.args.j c.unorders.result c.unorders.ensures
