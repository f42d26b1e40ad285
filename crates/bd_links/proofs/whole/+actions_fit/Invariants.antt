use Rattle.std.proofs.Common.{◌≡◌, map, drop, length}
use Rattle.std.specs.List.{list_all}
use Rattle.bd_links.specs.Sound.{are_below}
use Rattle.bd_links.proofs.whole.+actions_fit.Given as goal

abbrev pub invariant-loop-kid : goal.invariant-loop-kid
invariant-loop-kid l = list_all (λ b. b) (map (are_below (length l.task.actions)) (drop l.kid-index l.kid-items)) ≡ are_below (length l.task.actions) l.node
