use Rattle.std.proofs.Common.{◌≡◌, drop}
use Rattle.bd_base.specs.Facts.{has}
use Rattle.bd_tree.proofs.convex.is_listed.Given as goal

abbrev pub invariant-loop-own : goal.invariant-loop-own
invariant-loop-own l = has (drop l.own-index l.ids) l.id ≡ has l.ids l.id
