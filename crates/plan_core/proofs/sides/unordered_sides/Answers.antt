use Rattle.std.proofs.Common.{◌≡◌, IfOk, refl, ap, ◌∙◌, subst}
use Rattle.bd_tree.specs.declared.node.Node.{Node}
use Rattle.bd_shape.specs.Grouped.{side_id}
use Rattle.bd_shape.specs.Tightened.{right_fresh}
use Rattle.plan_core.proofs.SideLemmas.{same_can, same_unordered}
use Rattle.plan_core.proofs.sides.unordered_sides.Goals as goal

pub unorder-requires : goal.unorder-requires
unorder-requires c =
    let second : c.side_id-second.result ≡ side_id c.args.right.now (right_fresh c.args.left.now c.args.next) = c.side_id-second.ensures ∙ ap (side_id c.args.right.now) c.right_fresh.ensures in
    same_can c.args.block _ _ _ _ _ _ c.side_id-first.ensures second refl c.requires.can

pub returns : goal.returns
returns c =
    let second : c.side_id-second.result ≡ side_id c.args.right.now (right_fresh c.args.left.now c.args.next) = c.side_id-second.ensures ∙ ap (side_id c.args.right.now) c.right_fresh.ensures in
    subst (λ (z : Node). IfOk c.unorder.result (λ (t : Node). t ≡ z)) (same_unordered c.args.block _ _ _ _ c.args.both.now _ c.side_id-first.ensures second refl) c.unorder.ensures.tree
