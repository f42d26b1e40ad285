use Rattle.std.proofs.Common.{◌≡◌, ◌++◌, map, drop}
use Rattle.bd_ground.specs.Offers.{allowed}
use Rattle.bd_ground.proofs.offers.allowed.Given as goal

abbrev pub invariant-loop-g : goal.invariant-loop-g
invariant-loop-g l = l.xs.items ++ allowed l.n l.chosen l.a (map (λ g. g.now) (drop l.g-index l.atoms)) ≡ allowed l.n l.chosen l.a (map (λ g. g.now) l.atoms)
