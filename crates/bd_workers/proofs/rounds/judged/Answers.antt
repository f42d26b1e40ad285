use Rattle.std.proofs.Common.{length, ap}
use Rattle.plan_core.specs.Core.{is_replacement}
use Rattle.plan_rebuild.proofs.GrowLemmas.{adds_here}
use Rattle.bd_workers.proofs.StepLemmas.{piece_judged}
use Rattle.bd_workers.proofs.rounds.judged.Goals as goal

pub returns-in_err-verdict-clause-adds : goal.returns-in_err-verdict-clause-adds
returns-in_err-verdict-clause-adds g c = adds_here is_replacement c.args.core.now

pub returns-clause-piece : goal.returns-clause-piece
returns-clause-piece g c = piece_judged c.args.core.now _ c.args.window.now c.args.view.now.nodes _ c.in_ok-verdict.verdict c.in_ok-reply.reply c.keeps.ensures c.in_ok-reply.ensures.adds.grows (ap length c.history.ensures) c.requires.stands c.in_ok-verdict.ensures.holds c.in_ok-reply.ensures.reply
