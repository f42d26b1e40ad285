use Rattle.std.proofs.Common.{◌≡◌, ◌+◌, ◌∷◌, map, take, length}
use Rattle.bd_ground.specs.Atoms.{object_of}
use Rattle.bd_ground.proofs.filling.fill.Given as goal

abbrev pub invariant-loop-k : goal.invariant-loop-k
invariant-loop-k l = (length l.cells ≡ length l.initial.cells) × (take (l.k + 1) l.cells ≡ l.atom.head ∷ map (object_of l.args) (take l.k l.atom.args))
