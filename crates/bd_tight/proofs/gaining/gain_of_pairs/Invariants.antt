use Rattle.std.proofs.Common.{◌≡◌, map}
use Rattle.bd_tree.specs.Tree.{first_some}
use Rattle.bd_tight.specs.Gains.{gain_at, gain_of_pairs}
use Rattle.bd_tight.proofs.gaining.gain_of_pairs.Given as goal

abbrev pub invariant-loop-pair : goal.invariant-loop-pair
invariant-loop-pair l = first_some (map (gain_at l.task l.tree l.span l.own l.block l.kids l.order) l.pair-iterator) ≡ gain_of_pairs l.task l.tree l.span l.own l.block l.kids l.order
