use Rattle.std.proofs.Common.{◌≡◌, ◌+◌, ◌++◌, true, false, eqb, List, length, map, drop, ap, ◌∙◌, subst, IfOk}
use Rattle.bd_tree.specs.declared.node.Node.{Node}
use Rattle.bd_tree.proofs.BoundLemmas.{block_order}
use Rattle.bd_merge.proofs.CountLemmas.{block_few, one_more_made, one_less_left, rest_ordered, all_made}
use Rattle.bd_merge.proofs.MergeLemmas.{merged_here, of_step, of_window_block, of_other_block}
use Rattle.bd_merge.proofs.merging.+new_node.Goals as goal

pub new_block-requires-clause-few : goal.new_block-requires-clause-few
new_block-requires-clause-few t c = block_few c.args.node.now c.in-Block.id c.in-Block.kids _ c.in-Block.order c.in-Block.is c.as_slice.ensures (length c.args.list.now) c.requires.few

pub new_block-requires-clause-order : goal.new_block-requires-clause-order
new_block-requires-clause-order t c = block_order c.args.node.now c.in-Block.id c.in-Block.kids _ c.in-Block.order c.in-Block.is c.as_slice.ensures c.requires.ordered

pub returns-then-eq : goal.returns-then-eq
returns-then-eq t c =
    let e : eqb c.in-Block.id c.args.window.now.block ≡ true = cc in
    subst (λ (z : Node). IfOk c.new_block.result (λ n. n ≡ z)) (of_window_block c.args.window.now c.args.list.now c.args.next c.args.node.now c.in-Block.id c.in-Block.kids _ c.in-Block.order c.in-Block.is c.as_slice.ensures e) c.new_block.ensures

pub returns-in-Step : goal.returns-in-Step
returns-in-Step t c = of_step c.args.window.now c.args.list.now c.args.next c.args.node.now c.in-Step.id c.in-Step.action c.in-Step.is

pub loop-kid-preserved : goal.loop-kid-preserved
loop-kid-preserved t c =
    let kids = c.as_slice-kid-items.result.now in
    let f : Node → Node = merged_here c.args.window.now c.args.list.now c.args.next in
    let so_far : c.loop-kid.copies.items ++ map f (drop c.loop-kid.kid-index kids) ≡ map f kids = c.loop-kid.invariant.0 in (
      ap (λ (z : List Node). z ++ map f (drop (c.loop-kid.kid-index + 1) kids)) c.in_ok-push-in-Block.ensures.items
          ∙ one_more_made kids c.loop-kid.kid-index c.kid-item.result c.loop-kid-test.true c.kid-item.is f c.loop-kid.copies.items (map f kids) c.in_ok-new_node-in-Block.field-0 so_far c.in_ok-new_node-in-Block.ensures,
      one_less_left kids c.loop-kid.kid-index c.kid-item.result c.loop-kid-test.true c.kid-item.is (length c.args.list.now) c.loop-kid.invariant.1,
      rest_ordered kids c.loop-kid.kid-index c.kid-item.result c.loop-kid-test.true c.kid-item.is c.loop-kid.invariant.2,
    )

pub returns-in_ok-try_copy-in-Block : goal.returns-in_ok-try_copy-in-Block
returns-in_ok-try_copy-in-Block t c =
    let e : eqb c.in-Block.id c.args.window.now.block ≡ false = cc in
    let kids = c.as_slice-kid-items.result.now in
    let f : Node → Node = merged_here c.args.window.now c.args.list.now c.args.next in
    let made : c.of.result ≡ map f kids = c.of.ensures ∙ all_made kids c.loop-kid.copies.items (map f kids) f c.loop-kid.kid-index c.loop-kid-test.false c.loop-kid.invariant.0 in
    of_other_block c.args.window.now c.args.list.now c.args.next c.args.node.now c.in-Block.id c.in-Block.kids kids c.in-Block.order c.in-Block.is c.as_slice-kid-items.ensures e _ _ made c.in_ok-try_copy-in-Block.ensures
