use Rattle.std.proofs.Common.{length, ap, subst}
use Rattle.plan_core.specs.Core.{is_replacement}
use Rattle.plan_rebuild.proofs.GrowLemmas.{adds_here}
use Rattle.bd_merge.specs.Stands.{Stands}
use Rattle.bd_merge.specs.declared.standing.Found.TheVariants.{At, Gone, Split}
use Rattle.bd_workers.proofs.StepLemmas.{piece_skipped, gone_at, split_at}
use Rattle.bd_workers.proofs.rounds.piece_of.Goals as goal

pub judged-requires-clause-stands : goal.judged-requires-clause-stands
judged-requires-clause-stands g c = subst (λ t. Stands t c.args.window.now At) c.tree.ensures.tree c.in-At.ensures

pub returns-in-Gone-clause-adds : goal.returns-in-Gone-clause-adds
returns-in-Gone-clause-adds g c = adds_here is_replacement c.args.core.now

pub returns-in-Split-clause-adds : goal.returns-in-Split-clause-adds
returns-in-Split-clause-adds g c = adds_here is_replacement c.args.core.now

pub returns-in-Gone-clause-piece : goal.returns-in-Gone-clause-piece
returns-in-Gone-clause-piece g c = piece_skipped c.args.core.now c.args.window.now c.args.view.now.nodes _ _ Gone c.keeps.ensures (ap length c.history.ensures) c.tree.ensures.tree c.in-Gone.ensures (λ e. gone_at e)

pub returns-in-Split-clause-piece : goal.returns-in-Split-clause-piece
returns-in-Split-clause-piece g c = piece_skipped c.args.core.now c.args.window.now c.args.view.now.nodes _ _ Split c.keeps.ensures (ap length c.history.ensures) c.tree.ensures.tree c.in-Split.ensures (λ e. split_at e)
