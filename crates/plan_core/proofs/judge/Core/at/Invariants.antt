use Rattle.std.proofs.Common.{◌≡◌, take}
use Rattle.plan_core.specs.Core.{opened, replay}
use Rattle.plan_core.proofs.judge.Core.at.Given as goal

abbrev pub invariant-loop-offer : goal.invariant-loop-offer
invariant-loop-offer l = record {
  tree : l.tree ≡ (replay (opened l.self.start) (take l.offer-index l.offer-items)).tree;
  next : l.next ≡ (replay (opened l.self.start) (take l.offer-index l.offer-items)).next;
}
