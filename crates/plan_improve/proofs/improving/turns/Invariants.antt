use Rattle.std.proofs.Common.{◌≡◌, ◌≤◌, false, length, OnOk}
use Rattle.plan_rebuild.specs.Rebuilds.{GrowsRightly}
use Rattle.run_texts.specs.Texts.{betters_of}
use Rattle.plan_improve.specs.Improved.{EndsSo}
use Rattle.plan_improve.specs.Inner.{TellsOn, goes_on}
use Rattle.plan_improve.proofs.RunLemmas.{turns_left}
use Rattle.plan_improve.proofs.improving.turns.Given as goal

abbrev pub invariant-loop-alloc : goal.invariant-loop-alloc
invariant-loop-alloc g l = record {
  step : GrowsRightly l.fn.core l.run.core;
  few : length l.run.core.task.facts ≤ 262_144;
  ends : goes_on l.run.told l.run.end ≡ false → EndsSo l.setup l.run.core l.run.pieces.items l.run.end l.run.told;
  same : OnOk l.run.told (l.follower ≡ l.run.core);
  told : TellsOn (betters_of l.fn.core) (betters_of l.run.core) (record { before = g.S.Sink.told l.fn.out; after = g.S.Sink.told l.out; faults = g.S.Sink.faults l.fn.out; faults_after = g.S.Sink.faults l.out }) l.run.told;
  later : g.S.Sink.faults l.fn.out ≤ g.S.Sink.faults l.out;
}

abbrev pub decreases-loop-alloc : goal.decreases-loop-alloc
decreases-loop-alloc g l = turns_left l.run.core l.run.told l.run.end
