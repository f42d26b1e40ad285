use Rattle.std.proofs.Common.{◌≡◌, ◌++◌, ◌<◌, ◌^◌, drop, map}
use Rattle.bd_tree.specs.Tree.{nodes_of, total}
use Rattle.bd_window.specs.Family.{each_of}
use Rattle.bd_window.specs.Picks.{picked_family}
use Rattle.bd_window.proofs.cutting.«+put_family».Given as goal

abbrev pub invariant-loop-kid : goal.invariant-loop-kid
invariant-loop-kid l = record {
  put : l.cuts.items ++ each_of (picked_family l.width) (drop l.kid-index l.kid-items) ≡ l.fn.cuts.items ++ picked_family l.width l.node;
  few : total (map nodes_of (drop l.kid-index l.kid-items)) < 2 ^ 32;
}
