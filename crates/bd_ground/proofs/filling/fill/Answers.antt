use Rattle.std.proofs.Common.{◌≡◌, ℕ, ◌<◌, List, [], ◌∷◌, take, length, slice_set, refl, arith}
use Rattle.bd_ground.proofs.filling.fill.Goals as goal

first : (xs : List ℕ) (h : ℕ) → 0 < length xs → take 1 (slice_set xs 0 h) ≡ h ∷ []
first [] h lt = absurd (omega arith)
first (x ∷ xs) h lt = refl

pub loop-k-init : goal.loop-k-init
loop-k-init c = (refl, first c.args.cells.now c.args.atom.now.head (let lt : length c.args.atom.now.args < length c.args.cells.now = c.requires in omega arith))
