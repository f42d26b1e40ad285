use Rattle.std.proofs.Common.{sym, ◌∙◌}
use Rattle.bd_workers.proofs.TurnLemmas.{turns_fall, over_kept, grown, few_kept}
use Rattle.bd_workers.proofs.WalkLemmas.{true_grown}
use Rattle.bd_workers.proofs.improving.improved.Goals as goal

pub loop-proposer-smaller : goal.loop-proposer-smaller
loop-proposer-smaller g c =
    let t = c.turn_with-turn-in-loop-proposer in
    turns_fall c.args.core c.loop-proposer.turn.core t.result.core c.args.setup.now c.loop-proposer.invariant.step t.ensures.step t.result.pieces t.result.end t.ensures.ends c.loop-proposer.turn.pieces c.loop-proposer.turn.end (sym c.goes_on.ensures ∙ c.loop-proposer-test.true)

pub loop-proposer-preserved : goal.loop-proposer-preserved
loop-proposer-preserved g c =
    let t = c.turn_with-turn-in-loop-proposer in
    record {
      step = grown c.args.core c.loop-proposer.turn.core t.result.core c.args.setup.now c.loop-proposer.invariant.step t.ensures.step t.result.pieces t.result.end t.ensures.ends;
      few = few_kept c.args.core c.loop-proposer.turn.core t.result.core c.args.setup.now c.loop-proposer.invariant.step t.ensures.step t.result.pieces t.result.end t.ensures.ends c.loop-proposer.invariant.few;
      over = over_kept c.args.core c.loop-proposer.turn.core t.result.core c.args.setup.now c.loop-proposer.invariant.step t.ensures.step t.result.pieces t.result.end t.ensures.ends;
      kept = true_grown c.args.setup.now.nodes _ c.loop-proposer.turn.core t.result.core t.ensures.step.grows t.ensures.kept;
      memory = t.ensures.memory;
    }
