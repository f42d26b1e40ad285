use Rattle.std.proofs.Common.{◌≡◌, ◌+◌, arith, map, drop, sym, ◌∙◌, ap}
use Rattle.bd_tree.specs.Tree.{pairs_of, total}
use Rattle.bd_tree.proofs.BoundLemmas.{block_few, block_order, block_pairs, block_nodes, block_ordered, pairs_left, pairs_fit}
use Rattle.bd_tree.proofs.node.Node.+pairs.Goals as goal

pub ordered_pairs-sum-requires-clause-few : goal.ordered_pairs-sum-requires-clause-few
ordered_pairs-sum-requires-clause-few t c = block_few c.args.self.now c.in-Block.id c.in-Block.kids _ c.in-Block.order c.in-Block.is c.as_slice.ensures c.requires.small

pub ordered_pairs-sum-requires-clause-ordered : goal.ordered_pairs-sum-requires-clause-ordered
ordered_pairs-sum-requires-clause-ordered t c = block_order c.args.self.now c.in-Block.id c.in-Block.kids _ c.in-Block.order c.in-Block.is c.as_slice.ensures c.requires.ordered

pub loop-kid-init : goal.loop-kid-init
loop-kid-init t c =
    let sum : c.ordered_pairs-sum.result + total (map pairs_of c.as_slice-kid-items.result.now) ≡ pairs_of c.args.self.now =
    ap (λ z. z + total (map pairs_of c.as_slice-kid-items.result.now)) (c.ordered_pairs-sum.ensures ∙ ap (λ z. Rattle.bd_tree.specs.Tree.products c.in-Block.order (map Rattle.bd_tree.specs.Tree.steps_of z)) (c.as_slice.ensures ∙ sym c.as_slice-kid-items.ensures))
    ∙ sym (block_pairs c.args.self.now c.in-Block.id c.in-Block.kids _ c.in-Block.order c.in-Block.is c.as_slice-kid-items.ensures) in (
      sum,
      block_nodes c.args.self.now c.in-Block.id c.in-Block.kids _ c.in-Block.order c.in-Block.is c.as_slice-kid-items.ensures c.requires.small,
      block_ordered c.args.self.now c.in-Block.id c.in-Block.kids _ c.in-Block.order c.in-Block.is c.as_slice-kid-items.ensures c.requires.ordered,
    )

pub overflow_add-sum : goal.overflow_add-sum
overflow_add-sum t c =
    let left : c.loop-kid.sum + total (map pairs_of (drop c.loop-kid.kid-index c.as_slice-kid-items.result.now)) ≡ pairs_of c.args.self.now = c.loop-kid.invariant.0 in
    omega (arith, left, c.pairs-sum.ensures, pairs_left c.as_slice-kid-items.result.now c.loop-kid.kid-index c.kid-item.result c.loop-kid-test.true c.kid-item.is, pairs_fit c.args.self.now c.requires.ordered c.requires.small)
