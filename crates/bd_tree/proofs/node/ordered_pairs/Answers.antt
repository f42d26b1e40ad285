use Rattle.std.proofs.Common.{◌≡◌, ℕ, ◌<◌, ◌≤◌, ◌^◌, true, List, length, map, sym, ap, ◌∙◌, arith}
use Rattle.std.specs.List.{list_all}
use Rattle.std.proofs.lemmas.Bool.{and_parts}
use Rattle.std.proofs.lemmas.List.{length-map}
use Rattle.bd_tree.specs.Order.{is_order, is_rising, is_within}
use Rattle.bd_tree.specs.Tree.{steps_of, total, products}
use Rattle.bd_tree.specs.declared.node.Node.{Node}
use Rattle.bd_tree.proofs.BoundLemmas.{products_half, steps_at}
use Rattle.bd_tree.proofs.ProductLemmas.{all_counted, column_is, columns_within, counted_again, counted_once, counts_before, firsts_fit, steps_there}
use Rattle.bd_tree.proofs.node.ordered_pairs.Goals as goal
use Rattle.bd_tree.proofs.node.ordered_pairs.Goals.{then-steps-ne1, else-steps-ne1}

half : (kids : List Node) (order : List (ℕ × ℕ)) → is_order (length kids) order ≡ true → total (map steps_of kids) < 2 ^ 32 → products order (map steps_of kids) ≤ 2 ^ 63
half kids order o few = products_half (map steps_of kids) order (ap (λ z. is_order z order) (length-map kids steps_of) ∙ o) few

within : (n : ℕ) (order : List (ℕ × ℕ)) → is_order n order ≡ true → list_all (is_within n) order ≡ true
within n order o = (and_parts _ _ (and_parts _ _ o).0).0

rising : (n : ℕ) (order : List (ℕ × ℕ)) → is_order n order ≡ true → is_rising order ≡ true
rising n order o = (and_parts _ _ (and_parts _ _ o).0).1

pub walked_pairs-requires-clause-small : goal.walked_pairs-requires-clause-small
walked_pairs-requires-clause-small c = omega (arith, half c.args.kids.now c.args.order.now c.requires.ordered c.requires.few)

pub first_steps-sum-requires-clause-small : goal.first_steps-sum-requires-clause-small
first_steps-sum-requires-clause-small c =
    let o = c.requires.ordered in
    omega (arith, firsts_fit c.args.kids.now c.args.order.now (within (length c.args.kids.now) c.args.order.now o) c.requires.few (rising (length c.args.kids.now) c.args.order.now o) (omega arith))

pub steps-steps-requires : goal.steps-steps-requires
steps-steps-requires c = omega (arith, c.requires.few, steps_at c.args.kids.now c.loop-k.k _ _ (omega arith) c.index-kids-k.is)

pub overflow_sub-sum : goal.overflow_sub-sum
overflow_sub-sum c =
    omega (arith, c.steps_before-before.ensures, counts_before c.args.kids.now c.args.order.now (within (length c.args.kids.now) c.args.order.now c.requires.ordered) c.loop-k.k c.loop-k.sum (omega arith) c.loop-k.invariant.sum)

pub overflow_mul-sum : goal.overflow_mul-sum
overflow_mul-sum c =
    let w = within (length c.args.kids.now) c.args.order.now c.requires.ordered in
    let many = c.steps-steps.ensures ∙ sym (steps_there c.args.kids.now c.args.order.now w c.loop-k.k _ _ (omega arith) c.index-kids-k.is) in
    omega (
      arith,
      column_is (map steps_of c.args.kids.now) _ _ c.args.order.now c.loop-k.k many c.steps_before-before.ensures,
      columns_within c.args.kids.now c.args.order.now w c.loop-k.k (omega arith),
      half c.args.kids.now c.args.order.now c.requires.ordered c.requires.few,
    )

pub overflow_add-sum : goal.overflow_add-sum
overflow_add-sum c =
    let o = c.requires.ordered in
    let w = within (length c.args.kids.now) c.args.order.now o in
    let many = c.steps-steps.ensures ∙ sym (steps_there c.args.kids.now c.args.order.now w c.loop-k.k _ _ (omega arith) c.index-kids-k.is) in
    omega (
      arith,
      c.loop-k.invariant.sum,
      column_is (map steps_of c.args.kids.now) _ _ c.args.order.now c.loop-k.k many c.steps_before-before.ensures,
      columns_within c.args.kids.now c.args.order.now w c.loop-k.k (omega arith),
      half c.args.kids.now c.args.order.now o c.requires.few,
      firsts_fit c.args.kids.now c.args.order.now w c.requires.few (rising (length c.args.kids.now) c.args.order.now o) (omega arith),
    )

pub loop-k-preserved : goal.loop-k-preserved
loop-k-preserved c =
    let w = within (length c.args.kids.now) c.args.order.now c.requires.ordered in
    let many = c.steps-steps.ensures ∙ sym (steps_there c.args.kids.now c.args.order.now w c.loop-k.k _ _ (omega arith) c.index-kids-k.is) in
    record {
      within = omega arith;
      sum = elim c.if-steps-ne1.branch [
        | then-steps-ne1 b ↦ counted_again c.args.kids.now c.args.order.now w c.loop-k.k c.loop-k.sum _ _ _ (omega arith) c.loop-k.invariant.sum many b.steps_before-before.ensures b.sum-is
        | else-steps-ne1 b ↦ counted_once c.args.kids.now c.args.order.now w c.loop-k.k c.loop-k.sum _ c.loop-k.invariant.sum (sym many ∙ b.if-steps-ne1.false) b.sum-is
      ];
    }

pub returns : goal.returns
returns c = all_counted c.args.kids.now c.args.order.now (within (length c.args.kids.now) c.args.order.now c.requires.ordered) c.loop-k.k c.loop-k.sum (omega arith) c.loop-k.invariant.sum
