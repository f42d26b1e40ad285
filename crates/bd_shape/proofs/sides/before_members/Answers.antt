use Rattle.std.proofs.Common.{◌≡◌, ℕ, [], sym, ap, ◌∙◌}
use Rattle.bd_base.specs.Facts.{has, plus}
use Rattle.bd_base.specs.Pairs.{is_before, before_of}
use Rattle.bd_tree.specs.Tree.{id_of}
use Rattle.bd_shape.proofs.SideLemmas.{one_member, no_member, with_before}
use Rattle.bd_shape.proofs.sides.before_members.Goals.{then-has+in_ok-position+in_ok-before+in_ok-join, else-has}
use Rattle.bd_shape.proofs.sides.before_members.Goals as goal

pub loop-at-preserved : goal.loop-at-preserved
loop-at-preserved c =
    let kid = c.index-kids-at.result in
    let order = c.args.order.now in
    let f = λ (a q : ℕ). is_before order q a in
    let told : has c.args.ids.now (id_of kid) ≡ c.has.result = ap (λ z. has z (id_of kid)) (sym c.of_ids-members.ensures) ∙ ap (has c.of_ids-members.result) (sym c.id.ensures) ∙ sym c.has.ensures in
    elim c.if-has.branch [
      | then-has+in_ok-position+in_ok-before+in_ok-join w ↦
          let grown : c.if-has.row ≡ plus c.loop-at.row (plus [] (before_of order c.loop-at.at)) = w.row-is ∙ w.in_ok-join.ensures ∙ ap (plus c.loop-at.row) (w.row-then-has.ensures.row ∙ w.in_ok-before.ensures ∙ ap (λ z. plus [] (before_of order z)) w.in_ok-position.ensures) in
          one_member f c.args.ids.now c.args.kids.now c.loop-at.at kid c.loop-at-test.true c.index-kids-at.is c.loop-at.row c.if-has.row c.loop-at.invariant (told ∙ w.if-has.true) (with_before order c.loop-at.at c.loop-at.row c.if-has.row grown)
      | else-has w ↦ no_member f c.args.ids.now c.args.kids.now c.loop-at.at kid c.loop-at-test.true c.index-kids-at.is c.loop-at.row c.if-has.row c.loop-at.invariant (told ∙ w.if-has.false) w.row-is
    ]
