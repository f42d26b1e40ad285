use Rattle.bd_top.proofs.EndLemmas.{replays}
use Rattle.bd_top.proofs.alone.replayed.Goals as goal

pub returns : goal.returns
returns g c =
    let made = c.make_offers-made.ensures in
    replays c.args.core c.make_offers-made.new.core c.args.offers.now c.make_offers-made.new.replies.items _ _ _ _ _ _ _ _ _ _ c.requires.fresh made.made c.recorded-run.ensures.lawful made.later_out c.finished.ensures.later
    c.make_offers-made.result _ _ _ c.recorded-run.ensures.recorded made.all made.out made.notes made.cause c.finished.ensures.finishes
