use Rattle.std.proofs.Common.{◌≡◌, false, drop}
use Rattle.bd_tree.specs.Convex.{has_member}
use Rattle.bd_tree.proofs.spans.past_members.Given as goal

abbrev pub invariant-loop-at : goal.invariant-loop-at
invariant-loop-at l = has_member l.members (drop l.at l.kids) ≡ false
