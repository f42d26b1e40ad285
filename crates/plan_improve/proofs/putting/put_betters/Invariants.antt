use Rattle.std.proofs.Common.{◌-◌, ◌≤◌, length}
use Rattle.plan_rebuild.specs.Grown.{Grows}
use Rattle.run_texts.specs.Texts.{betters_of}
use Rattle.plan_improve.specs.Inner.{Tells}
use Rattle.plan_improve.proofs.putting.put_betters.Given as goal

abbrev pub invariant-loop-alloc : goal.invariant-loop-alloc
invariant-loop-alloc g l = record {
  grows : Grows l.follower l.lead;
  told : Tells (betters_of l.initial.follower) (betters_of l.follower) (record { before = g.S.Sink.told l.initial.out; after = g.S.Sink.told l.out; faults = g.S.Sink.faults l.initial.out; faults_after = g.S.Sink.faults l.out });
  later : g.S.Sink.faults l.initial.out ≤ g.S.Sink.faults l.out;
}

abbrev pub decreases-loop-alloc : goal.decreases-loop-alloc
decreases-loop-alloc g l = length l.lead.history - length l.follower.history
