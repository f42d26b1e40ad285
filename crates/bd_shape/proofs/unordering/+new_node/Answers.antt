use Rattle.std.proofs.Common.{◌≡◌, ◌+◌, ◌++◌, true, false, eqb, List, map, drop, ap, ◌∙◌, subst, IfOk}
use Rattle.bd_tree.specs.declared.node.Node.{Node}
use Rattle.bd_shape.specs.Unordered.{unordered_block}
use Rattle.bd_shape.proofs.CopyLemmas.{one_more_made, all_made}
use Rattle.bd_shape.proofs.PairLemmas.{distinct_kids, distinct_in_kids, distinct_behind}
use Rattle.bd_shape.proofs.RemadeLemmas.{remade_here, of_step, of_the_block, of_other_block}
use Rattle.bd_shape.proofs.unordering.+new_node.Goals as goal

pub new_block-requires : goal.new_block-requires
new_block-requires t c = distinct_kids c.args.node.now c.in-Block.id c.in-Block.kids _ c.in-Block.order c.in-Block.is c.as_slice-kids.ensures c.requires.distinct

pub returns-then-eq : goal.returns-then-eq
returns-then-eq t c =
    let e : eqb c.in-Block.id c.args.block ≡ true = cc in
    subst (λ (z : Node). IfOk c.new_block.result (λ n. n ≡ z)) (of_the_block c.args.block (unordered_block c.args.block c.args.i c.args.j) c.args.node.now c.in-Block.id c.in-Block.kids _ c.in-Block.order c.in-Block.is c.as_slice-kids.ensures e) c.new_block.ensures

pub returns-in-Step : goal.returns-in-Step
returns-in-Step t c = of_step c.args.block (unordered_block c.args.block c.args.i c.args.j) c.args.node.now c.in-Step.id c.in-Step.action c.in-Step.is

pub loop-kid-init : goal.loop-kid-init
loop-kid-init t c =
    let kids = c.as_slice-kids.result.now in
    (ap (λ (z : List Node). z ++ map (remade_here c.args.block (unordered_block c.args.block c.args.i c.args.j)) kids) c.new-copies.ensures.items, distinct_in_kids c.args.node.now c.in-Block.id c.in-Block.kids kids c.in-Block.order c.in-Block.is c.as_slice-kids.ensures c.requires.distinct)

pub loop-kid-preserved : goal.loop-kid-preserved
loop-kid-preserved t c =
    let kids = c.as_slice-kids.result.now in
    let f : Node → Node = remade_here c.args.block (unordered_block c.args.block c.args.i c.args.j) in
    let so_far : c.loop-kid.copies.items ++ map f (drop c.loop-kid.kid-index kids) ≡ map f kids = c.loop-kid.invariant.0 in (
      ap (λ (z : List Node). z ++ map f (drop (c.loop-kid.kid-index + 1) kids)) c.in_ok-push-in-Block.ensures.items
          ∙ one_more_made kids c.loop-kid.kid-index c.kid-item.result c.loop-kid-test.true c.kid-item.is f c.loop-kid.copies.items (map f kids) c.in_ok-new_node-in-Block.field-0 so_far c.in_ok-new_node-in-Block.ensures,
      distinct_behind kids c.loop-kid.kid-index c.kid-item.result c.loop-kid-test.true c.kid-item.is c.loop-kid.invariant.1,
    )

pub returns-in_ok-try_copy-in-Block : goal.returns-in_ok-try_copy-in-Block
returns-in_ok-try_copy-in-Block t c =
    let e : eqb c.in-Block.id c.args.block ≡ false = cc in
    let kids = c.as_slice-kids.result.now in
    let f : Node → Node = remade_here c.args.block (unordered_block c.args.block c.args.i c.args.j) in
    let made : c.of.result ≡ map f kids = c.of.ensures ∙ all_made kids c.loop-kid.copies.items (map f kids) f c.loop-kid.kid-index c.loop-kid-test.false c.loop-kid.invariant.0 in
    of_other_block c.args.block (unordered_block c.args.block c.args.i c.args.j) c.args.node.now c.in-Block.id c.in-Block.kids kids c.in-Block.order c.in-Block.is c.as_slice-kids.ensures e _ _ made c.in_ok-try_copy-in-Block.ensures
