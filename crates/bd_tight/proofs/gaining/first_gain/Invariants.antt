use Rattle.std.proofs.Common.{◌≡◌, map, drop}
use Rattle.bd_tree.specs.Tree.{find_in, first_some}
use Rattle.bd_tight.specs.Gains.{first_gain, gain_in}
use Rattle.bd_tight.proofs.gaining.first_gain.Given as goal

abbrev pub invariant-loop-id : goal.invariant-loop-id
invariant-loop-id l = first_some (map (λ id. gain_in l.task l.tree l.span (find_in id l.tree)) (drop l.id-index l.id-items)) ≡ first_gain l.task l.tree l.span
