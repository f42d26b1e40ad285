use Rattle.std.proofs.Common.{◌≡◌, length, map, sym, ap, ◌∙◌, arith}
use Rattle.bd_tree.specs.Tree.{steps_of}
use Rattle.bd_tree.proofs.BoundLemmas.{steps_at}
use Rattle.bd_tree.proofs.ProductLemmas.{row, rows_sum, rows_within, steps_there}
use Rattle.bd_tree.proofs.SumLemmas.{sum_below}
use Rattle.bd_tree.proofs.node.first_steps.Goals as goal

pub steps-requires : goal.steps-requires
steps-requires c = omega (arith, c.requires.few, steps_at c.args.kids.now c.loop-i.i _ _ (omega arith) c.index-kids-i.is)

pub overflow_mul-sum : goal.overflow_mul-sum
overflow_mul-sum c =
    let many = c.steps.ensures ∙ sym (steps_there c.args.kids.now c.args.order.now c.requires.within c.loop-i.i _ _ (omega arith) c.index-kids-i.is) in
    omega (arith, c.requires.small, rows_within c.args.kids.now c.args.order.now c.requires.within c.loop-i.i _ _ (omega arith) many (c.len.ensures ∙ ap length c.after.ensures))

pub overflow_add-sum : goal.overflow_add-sum
overflow_add-sum c =
    let many = c.steps.ensures ∙ sym (steps_there c.args.kids.now c.args.order.now c.requires.within c.loop-i.i _ _ (omega arith) c.index-kids-i.is) in
    omega (arith, c.requires.small, c.loop-i.invariant.sum, rows_within c.args.kids.now c.args.order.now c.requires.within c.loop-i.i _ _ (omega arith) many (c.len.ensures ∙ ap length c.after.ensures))

pub returns : goal.returns
returns c =
    let all : c.loop-i.i ≡ length c.args.kids.now = omega arith in
    c.loop-i.invariant.sum ∙ ap (λ z. sum_below z (row (map steps_of c.args.kids.now) c.args.order.now)) all ∙ rows_sum (map steps_of c.args.kids.now) (length c.args.kids.now) c.args.order.now c.requires.within
