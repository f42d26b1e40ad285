use Rattle.std.proofs.Common.{◌≡◌, IsErrAnd, length, ◌∙◌}
use Rattle.bd_links.specs.Sound.{child_of, are_below}
use Rattle.bd_links.specs.declared.parts.Effects.{Effects}
use Rattle.bd_links.specs.Effects.{block_effects}
use Rattle.std.specs.List.{enumerate_from}
use Rattle.bd_links.specs.Child.{Child}
use Rattle.bd_links.proofs.Steps.{made_next, all-drop-next}
use Rattle.bd_links.proofs.Stops.{stops, kid_passes, kid_stops, block_child, block_stops}
use Rattle.bd_links.proofs.judging.+judge.Goals as goal

pub returns-in_err-judge-in-Block : goal.returns-in_err-judge-in-Block
returns-in_err-judge-in-Block t c =
    let told : IsErrAnd c.from_residual.result (λ x. x ≡ c.in_err-judge-in-Block.field-0.0) = c.from_residual.ensures.1 in
    stops {A = Child} _ _ (child_of c.args.task.now.actions c.kid-item.result) _ _ _ told c.in_err-judge-in-Block.ensures
    (kid_stops c.args.task.now.actions _ _ _ c.loop-kid-test.true c.kid-item.is c.loop-kid.invariant.fault _ _ _ _ c.in-Block.is c.as_slice-kid-items.ensures)

pub loop-kid-preserved : goal.loop-kid-preserved
loop-kid-preserved t c =
    let actions = c.args.task.now.actions in
    let kid = c.in_ok-judge-in-Block.ensures in
    record {
      made = made_next (child_of actions) _ _ _ _ _ _ c.loop-kid-test.true c.kid-item.is c.loop-kid.invariant.made kid.1 c.in_ok-push-in-Block.ensures.items;
      below = all-drop-next (are_below (length actions)) _ _ _ c.loop-kid-test.true c.kid-item.is c.loop-kid.invariant.below;
      fault = kid_passes actions _ _ _ c.loop-kid-test.true c.kid-item.is c.loop-kid.invariant.fault kid.0;
    }

pub returns-in_err-effects-in-Block : goal.returns-in_err-effects-in-Block
returns-in_err-effects-in-Block t c =
    let told : IsErrAnd c.from_residual-in_err-effects-in-Block.result (λ x. x ≡ c.in_err-effects-in-Block.field-0.0) = c.from_residual-in_err-effects-in-Block.ensures.1 in
    let same = block_stops c.args.task.now.actions _ _ _ _ c.in-Block.is _ c.as_slice-kid-items.ensures _ c.loop-kid-test.false _ (c.deref.ensures.value ∙ c.loop-kid.invariant.made) c.loop-kid.invariant.fault in
    stops {A = Effects} _ _ (block_effects c.in-Block.order (enumerate_from 0 c.deref.result.now)) _ _ _ told c.in_err-effects-in-Block.ensures (λ x e. same ∙ e)

pub returns-in_ok-effects-in-Block : goal.returns-in_ok-effects-in-Block
returns-in_ok-effects-in-Block t c =
    let actions = c.args.task.now.actions in
    let made = c.deref.ensures.value ∙ c.loop-kid.invariant.made in
    let same = block_stops actions _ _ _ _ c.in-Block.is _ c.as_slice-kid-items.ensures _ c.loop-kid-test.false _ made c.loop-kid.invariant.fault in
    (same ∙ c.in_ok-effects-in-Block.ensures.0, c.of_effects.ensures ∙ block_child actions _ _ _ _ c.in-Block.is _ c.as_slice-kid-items.ensures _ c.loop-kid-test.false _ made _ c.in_ok-effects-in-Block.ensures.1)
