use Rattle.std.proofs.Common.{◌≡◌, ◌∷◌, map, take}
use Rattle.bd_ground.specs.Atoms.{object_of}
use Rattle.bd_ground.proofs.filling.refill.Given as goal

abbrev pub invariant-loop-t : goal.invariant-loop-t
invariant-loop-t l = l.g.items ≡ l.atom.head ∷ map (object_of l.args) (take l.t-index l.t-items)
