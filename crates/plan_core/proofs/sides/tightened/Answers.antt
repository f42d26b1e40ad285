use Rattle.std.proofs.Common.{◌≡◌, ℕ, IfOk, refl, ap, ◌∙◌, subst}
use Rattle.bd_tree.specs.declared.node.Node.{Node}
use Rattle.bd_shape.specs.Grouped.{grouped}
use Rattle.bd_shape.specs.Tightened.{both_grouped}
use Rattle.plan_core.proofs.SideLemmas.{same_can, same_unordered}
use Rattle.plan_core.proofs.sides.tightened.Goals as goal

pub unordered_sides-requires-clause-can : goal.unordered_sides-requires-clause-can
unordered_sides-requires-clause-can c =
    let root = c.args.tree.now in
    let block = c.args.block in
    let left = c.args.left.now in
    let right = c.args.right.now in
    let next = c.args.next in
    let both : c.in_ok-both.both ≡ both_grouped root block left right next =
    c.in_ok-both.ensures.tree ∙ ap (λ (t : Node). grouped t block right c.right_fresh.result) c.in_ok-first.ensures.tree ∙ ap (λ (n : ℕ). grouped (grouped root block left next) block right n) c.right_fresh.ensures in
    same_can block _ _ _ _ _ _ refl refl both c.requires.can.unorders

pub returns : goal.returns
returns c =
    let root = c.args.tree.now in
    let block = c.args.block in
    let left = c.args.left.now in
    let right = c.args.right.now in
    let next = c.args.next in
    let both : c.in_ok-both.both ≡ both_grouped root block left right next =
    c.in_ok-both.ensures.tree ∙ ap (λ (t : Node). grouped t block right c.right_fresh.result) c.in_ok-first.ensures.tree ∙ ap (λ (n : ℕ). grouped (grouped root block left next) block right n) c.right_fresh.ensures in
    subst (λ (z : Node). IfOk c.unordered_sides.result (λ (t : Node). t ≡ z)) (same_unordered block _ _ _ _ _ _ refl refl both) c.unordered_sides.ensures
