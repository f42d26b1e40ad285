use Rattle.std.proofs.Common.{refl, sym, subst}
use Rattle.plan_core.specs.Core.{CoreView}
use Rattle.run_texts.specs.Taken.{Taken}
use Rattle.run_texts.specs.Texts.{betters_of}
use Rattle.plan_improve.specs.Inner.{TellsOn}
use Rattle.plan_improve.proofs.TellLemmas.{tells_none}
use Rattle.plan_improve.proofs.improving.step.Goals as goal

pub returns-in-Err-clause-told : goal.returns-in-Err-clause-told
returns-in-Err-clause-told g c =
    let same : Taken = record { before = g.S.Sink.told c.args.out.now; after = g.S.Sink.told c.args.out.now; faults = g.S.Sink.faults c.args.out.now; faults_after = g.S.Sink.faults c.args.out.now } in
    subst (λ (last : CoreView). TellsOn (betters_of c.args.core) (betters_of last) same c.stopped.result.told) (sym c.stopped.ensures.core)
    (subst (λ r. TellsOn (betters_of c.args.core) (betters_of c.turn_alone-core.result.core) same r) (sym c.stopped.ensures.told)
    (tells_none c.args.core c.turn_alone-core.result.core same c.turn_alone-core.ensures.step.grows refl))
