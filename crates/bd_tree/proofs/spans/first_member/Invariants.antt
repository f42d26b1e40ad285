use Rattle.std.proofs.Common.{◌≡◌, false, take}
use Rattle.bd_tree.specs.Convex.{has_member}
use Rattle.bd_tree.proofs.spans.first_member.Given as goal

abbrev pub invariant-loop-at : goal.invariant-loop-at
invariant-loop-at l = has_member l.members (take l.at l.kids) ≡ false
