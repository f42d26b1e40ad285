use Rattle.std.proofs.Common.{◌≡◌, length, map, ap, ◌∙◌, arith}
use Rattle.bd_tree.specs.Tree.{steps_of}
use Rattle.bd_tree.proofs.BoundLemmas.{steps_at}
use Rattle.bd_tree.proofs.ProductLemmas.{led, before_sum, part_before_fits}
use Rattle.bd_tree.proofs.SumLemmas.{sum_below}
use Rattle.bd_tree.proofs.node.steps_before.Goals as goal

pub steps-requires : goal.steps-requires
steps-requires c = omega (arith, c.requires.few, steps_at c.args.kids.now c.loop-i.i _ _ (omega arith) c.index-kids-i.is)

pub overflow_add-sum : goal.overflow_add-sum
overflow_add-sum c =
    omega (
      arith,
      c.requires.few,
      c.requires.short,
      c.loop-i.invariant.sum,
      c.steps.ensures,
      steps_at c.args.kids.now c.loop-i.i _ _ (omega arith) c.index-kids-i.is,
      part_before_fits c.args.kids.now c.args.order.now c.requires.within c.requires.few c.args.k c.loop-i.i,
    )

pub returns : goal.returns
returns c =
    let all : c.loop-i.i ≡ c.args.k = omega arith in
    c.loop-i.invariant.sum ∙ ap (λ z. sum_below z (led (map steps_of c.args.kids.now) c.args.order.now c.args.k)) all ∙ before_sum (map steps_of c.args.kids.now) (length c.args.kids.now) c.args.k c.args.order.now c.requires.within c.requires.rising
