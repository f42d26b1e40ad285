use Rattle.std.proofs.Common.{◌≡◌, ◌≤◌, [], length, vec_capacity}
use Rattle.run_texts.specs.Texts.{betters_of, reply_texts}
use Rattle.run_texts.specs.Taken.{Follows}
use Rattle.bd_top.specs.Replay.{Makes}
use Rattle.bd_top.proofs.replay.make_offers.Given as goal

abbrev pub invariant-loop-offer : goal.invariant-loop-offer
invariant-loop-offer g l = record {
  made : Makes l.initial.core l.offers l.replies.items l.core;
  count : length l.replies.items ≡ l.offer-index;
  room : length l.offers ≤ vec_capacity l.replies;
  same : l.core.task ≡ l.initial.core.task;
  out : Follows (betters_of l.initial.core) (betters_of l.core) (record { before = g.S.Sink.told l.initial.out; after = g.S.Sink.told l.out; faults = g.S.Sink.faults l.initial.out; faults_after = g.S.Sink.faults l.out });
  notes : Follows [] (reply_texts l.initial.core.task 1 l.replies.items) (record { before = g.E.Sink.told l.initial.notes; after = g.E.Sink.told l.notes; faults = g.E.Sink.faults l.initial.notes; faults_after = g.E.Sink.faults l.notes });
  out_later : g.S.Sink.faults l.initial.out ≤ g.S.Sink.faults l.out;
  notes_later : g.E.Sink.faults l.initial.notes ≤ g.E.Sink.faults l.notes;
}
