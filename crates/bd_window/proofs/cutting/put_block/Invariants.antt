use Rattle.std.proofs.Common.{◌≡◌, ◌++◌, drop, length}
use Rattle.bd_window.specs.Family.{each_of}
use Rattle.bd_window.specs.Picks.{pair_of, picks_of, AreWithin}
use Rattle.bd_window.proofs.cutting.put_block.Given as goal

abbrev pub invariant-loop-pick : goal.invariant-loop-pick
invariant-loop-pick l = record {
  within : AreWithin (length l.kids) (drop l.pick-index l.pick-items);
  put : l.cuts.items ++ each_of (pair_of l.block l.kids l.order) (drop l.pick-index l.pick-items) ≡ l.initial.cuts.items ++ each_of (pair_of l.block l.kids l.order) (picks_of l.width (length l.kids) l.order);
}
