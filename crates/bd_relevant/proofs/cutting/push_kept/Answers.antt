use Rattle.std.proofs.Common.{refl, true, false}
use Rattle.bd_relevant.proofs.CutDownLemmas.{cut_left_out, cut_put}
use Rattle.bd_relevant.proofs.cutting.push_kept.Goals as goal

pub returns-then-not-is_kept : goal.returns-then-not-is_kept
returns-then-not-is_kept c =
    cut_left_out c.args.task.now c.args.relevant.now c.args.number c.args.action.now c.requires.at c.args.numbers.now.items c.args.actions.now.items false c.if-not-is_kept.ensures refl c.requires.kept

pub returns : goal.returns
returns c =
    cut_put c.args.task.now c.args.relevant.now c.args.number c.args.action.now c.requires.at c.args.numbers.now.items c.push-2.new.self.items c.args.actions.now.items c.push.new.self.items c.in_ok-cut.cut true
    c.requires.fits c.if-not-is_kept.ensures refl c.in_ok-cut.ensures c.in_ok-push-2.ensures.items c.in_ok-push.ensures.items c.requires.kept
