use Rattle.std.proofs.Common.{◌++◌, ◌∙◌, ap, sym, append-nil}
use Rattle.bd_window.specs.Picks.{picked_family}
use Rattle.bd_window.proofs.Layers.{block_put, few_kids, picked-Step, kid_put, few_left}
use Rattle.bd_window.proofs.cutting.«+put_family».Goals as goal

pub loop-kid-init : goal.loop-kid-init
loop-kid-init t c =
    let b = c.in-Block in
    record {
      put = block_put c.args.width b.id b.kids c.as_slice-kid-items.result.now b.order c.args.node.now b.is c.as_slice-kid-items.ensures c.as_slice.result.now c.as_slice.ensures _ _ c.in_ok-put_block-in-Block.ensures;
      few = few_kids b.id b.kids c.as_slice-kid-items.result.now b.order c.args.node.now b.is c.as_slice-kid-items.ensures c.requires;
    }

pub returns-in-Step : goal.returns-in-Step
returns-in-Step t c = sym (append-nil c.args.cuts.now.items) ∙ ap (λ z. c.args.cuts.now.items ++ z) (sym (ap (picked_family c.args.width) c.in-Step.is ∙ picked-Step c.args.width c.in-Step.id c.in-Step.action))

pub loop-kid-preserved : goal.loop-kid-preserved
loop-kid-preserved t c =
    let kids = c.as_slice-kid-items.result.now in
    record {
      put = kid_put c.args.width kids c.loop-kid.kid-index c.kid-item.result c.loop-kid-test.true c.kid-item.is c.loop-kid.cuts.items _ _ c.in_ok-put_family-in-Block.ensures c.loop-kid.invariant.put;
      few = few_left c.args.width kids c.loop-kid.kid-index c.kid-item.result c.loop-kid-test.true c.kid-item.is c.loop-kid.invariant.few;
    }
