use Rattle.std.proofs.Common.{Ok, Err, ◌∙◌, arith}
use Rattle.run_texts.proofs.TakenLemmas.{follows_on, err_follows}
use Rattle.bd_top.proofs.ReplayLemmas.{made_more, made_stop, one_more, same_task, replies_on}
use Rattle.bd_top.proofs.replay.make_offers.Goals as goal

pub returns-in_err-make_offer-clause-made : goal.returns-in_err-make_offer-clause-made
returns-in_err-make_offer-clause-made g c =
    made_stop c.args.offers.now c.loop-offer.replies.items _ c.args.core.now c.loop-offer.core _ c.loop-offer.offer-index c.offer-item.result c.in_err-make_offer.field-0.0
    c.loop-offer.invariant.made c.loop-offer.invariant.count c.loop-offer-test.true c.offer-item.is c.in_err-make_offer.ensures.made

pub returns-in_err-make_offer-clause-out : goal.returns-in_err-make_offer-clause-out
returns-in_err-make_offer-clause-out g c =
    err_follows _ _ _ c.from_residual.result _ c.from_residual.ensures.1
    (follows_on _ _ _ _ _ _ _ _ _ (Err c.in_err-make_offer.field-0.0) c.loop-offer.invariant.out c.in_err-make_offer.ensures.out)

pub returns-in_err-make_offer-clause-notes : goal.returns-in_err-make_offer-clause-notes
returns-in_err-make_offer-clause-notes g c =
    err_follows _ _ _ c.from_residual.result _ c.from_residual.ensures.1
    (follows_on _ _ _ _ _ _ _ _ _ (Err c.in_err-make_offer.field-0.0) c.loop-offer.invariant.notes
    (replies_on c.loop-offer.core.task c.args.core.now.task c.loop-offer.replies.items c.make_offer.new.replies.items _ (Err c.in_err-make_offer.field-0.0) c.loop-offer.invariant.same c.in_err-make_offer.ensures.notes))

pub loop-offer-preserved : goal.loop-offer-preserved
loop-offer-preserved g c =
    let one = c.in_ok-make_offer.ensures.made in
    record {
      made = made_more c.args.offers.now c.loop-offer.replies.items _ c.args.core.now c.loop-offer.core _ c.loop-offer.offer-index c.offer-item.result
          c.loop-offer.invariant.made c.loop-offer.invariant.count c.loop-offer-test.true c.offer-item.is one;
      count = one_more c.loop-offer.replies.items _ one.reply c.loop-offer.offer-index c.loop-offer.invariant.count one.listed;
      room = omega (arith, c.loop-offer.invariant.room, c.make_offer.ensures.capacity);
      same = same_task c.loop-offer.core _ c.offer-item.result one.reply one.leads ∙ c.loop-offer.invariant.same;
      out = follows_on _ _ _ _ _ _ _ _ _ (Ok c.in_ok-make_offer.field-0) c.loop-offer.invariant.out c.in_ok-make_offer.ensures.out;
      notes = follows_on _ _ _ _ _ _ _ _ _ (Ok c.in_ok-make_offer.field-0) c.loop-offer.invariant.notes
          (replies_on c.loop-offer.core.task c.args.core.now.task c.loop-offer.replies.items c.make_offer.new.replies.items _ (Ok c.in_ok-make_offer.field-0) c.loop-offer.invariant.same c.in_ok-make_offer.ensures.notes);
      out_later = omega (arith, c.loop-offer.invariant.out_later, c.make_offer.ensures.later_out);
      notes_later = omega (arith, c.loop-offer.invariant.notes_later, c.make_offer.ensures.later_notes);
    }
