use Rattle.std.proofs.Common.{sym, subst}
use Rattle.bd_merge.specs.Stands.{Stands}
use Rattle.bd_merge.specs.declared.standing.Found.TheVariants.{At}
use Rattle.bd_subtask.specs.Posing.{Posed}
use Rattle.bd_workers.proofs.KeptLemmas.{verdict_kept, verdict_searched}
use Rattle.bd_workers.proofs.looking.verdict_of.Goals as goal

pub subtask-requires-clause-stands : goal.subtask-requires-clause-stands
subtask-requires-clause-stands c = subst (λ (p : Posed). Stands p.root c.args.window.now At) (sym c.requires.shows.posing) c.requires.stands

pub returns-in-Some-clause-holds : goal.returns-in-Some-clause-holds
returns-in-Some-clause-holds c =
    verdict_kept c.args.core.now c.args.window.now c.args.view.now.nodes c.args.view.now.posing c.in_ok-sub.sub c.in_ok-kind.field-0 c.in-Some.kind c.args.kept.now
    c.requires.shows.posing c.in_ok-sub.ensures.subtask c.in_ok-kind.ensures c.in-Some.is c.requires.kept

pub returns-in-None-clause-holds : goal.returns-in-None-clause-holds
returns-in-None-clause-holds c =
    verdict_searched c.args.core.now c.args.window.now c.args.view.now.nodes c.args.view.now.posing c.in_ok-sub.sub c.args.view.now.task.now c.searched.result
    c.requires.shows.posing c.requires.shows.task c.in_ok-sub.ensures.subtask c.searched.ensures.same c.searched.ensures.holds
