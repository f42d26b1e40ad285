use Rattle.std.proofs.Common.{◌≡◌, true, false, sym, ap, ◌∙◌, subst, rules}
use Rattle.bd_tree.specs.declared.node.Node.{Node}
use Rattle.bd_shape.specs.Grouped.{side_id}
use Rattle.bd_shape.specs.Tightened.{both_grouped, right_fresh}
use Rattle.bd_shape.specs.Unordered.{CanUnorder, unordered}
use Rattle.plan_core.specs.Replies.{HasSides, AreSides}
use Rattle.plan_core.specs.Sides.{CanTighten, are_sides, has_sides}
use Rattle.plan_core.proofs.SideLemmas.{of_none, of_some, same_sides, same_can_tighten, same_tightened}
use Rattle.plan_core.proofs.TightenLemmas.{can_tighten}
use Rattle.plan_core.proofs.judge.Core.make_tightened.Goals as goal

pub returns-in-None-clause-makes : goal.returns-in-None-clause-makes
returns-in-None-clause-makes c =
    let block = c.args.block in
    let left = c.args.left.now in
    let right = c.args.right.now in
    let told : c.has_sides.result ≡ true = search rules in
    let there : HasSides c.args.self.now block left right = ap (λ (t : Node). has_sides t block left right) (sym c.tree-tree.ensures.tree) ∙ sym c.has_sides.ensures ∙ told in
    let out : are_sides c.tree-tree.result.now block left right c.next-next.result ≡ false = of_none _ (are_sides c.tree-tree.result.now block left right c.next-next.result ≡ false) c.in-None.is c.in_ok-grouped_sides.ensures.none in
    (c.requires, there, sym (same_sides block left right _ _ _ _ c.tree-tree.ensures.tree c.next-next.ensures) ∙ out)

pub unordered_sides-requires-clause-can : goal.unordered_sides-requires-clause-can
unordered_sides-requires-clause-can c =
    let core = c.args.self.now in
    let block = c.args.block in
    let left = c.args.left.now in
    let right = c.args.right.now in
    let root = c.tree-tree.result.now in
    let next = c.next-next.result in
    let told : c.has_sides.result ≡ true = search rules in
    let there : HasSides core block left right = ap (λ (t : Node). has_sides t block left right) (sym c.tree-tree.ensures.tree) ∙ sym c.has_sides.ensures ∙ told in
    let are : are_sides root block left right next ≡ true = of_some _ _ (λ (t : Node). are_sides root block left right next ≡ true) c.in-Some.is c.in_ok-grouped_sides.ensures.some in
    let sides : AreSides core block left right = sym (same_sides block left right _ _ _ _ c.tree-tree.ensures.tree c.next-next.ensures) ∙ are in
    let room = c.keeps.ensures.room in
    let can : CanTighten root block left right next = same_can_tighten block left right _ _ _ _ c.tree-tree.ensures.tree c.next-next.ensures (can_tighten core.tree block left right core.next room.formed room.fresh there sides) in
    let both : c.in-Some.both ≡ both_grouped root block left right next = of_some _ _ (λ (t : Node). t ≡ both_grouped root block left right next) c.in-Some.is c.in_ok-grouped_sides.ensures.tree in
    subst (λ (t : Node). CanUnorder t block (side_id left next) (side_id right (right_fresh left next))) (sym both) can.unorders

pub returns-in_ok-unordered_sides-in-Some-clause-makes : goal.returns-in_ok-unordered_sides-in-Some-clause-makes
returns-in_ok-unordered_sides-in-Some-clause-makes c =
    let core = c.args.self.now in
    let block = c.args.block in
    let left = c.args.left.now in
    let right = c.args.right.now in
    let root = c.tree-tree.result.now in
    let next = c.next-next.result in
    let told : c.has_sides.result ≡ true = search rules in
    let there : HasSides core block left right = ap (λ (t : Node). has_sides t block left right) (sym c.tree-tree.ensures.tree) ∙ sym c.has_sides.ensures ∙ told in
    let are : are_sides root block left right next ≡ true = of_some _ _ (λ (t : Node). are_sides root block left right next ≡ true) c.in-Some.is c.in_ok-grouped_sides.ensures.some in
    let both : c.in-Some.both ≡ both_grouped root block left right next = of_some _ _ (λ (t : Node). t ≡ both_grouped root block left right next) c.in-Some.is c.in_ok-grouped_sides.ensures.tree in
    record {
      is_open = c.requires;
      there = there;
      sides = sym (same_sides block left right _ _ _ _ c.tree-tree.ensures.tree c.next-next.ensures) ∙ are;
      tree_is = c.in_ok-unordered_sides-in-Some.ensures ∙ ap (λ (t : Node). unordered t block (side_id left next) (side_id right (right_fresh left next))) both ∙ same_tightened block left right _ _ _ _ c.tree-tree.ensures.tree c.next-next.ensures;
    }
