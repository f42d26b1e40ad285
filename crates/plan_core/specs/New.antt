-- Inner: serves this crate's own proofs alone.
use Rattle.std.specs.Prelude.{ℕ, Bool, true, false, if◌then◌else◌, List, [], ◌∷◌}
use Rattle.bd_base.specs.Facts.{has}

-- whether each number is unlike all that were seen before it
abbrev pub are_new : List ℕ → List ℕ → Bool
are_new seen [] = true
are_new seen (x ∷ xs) = if has seen x then false else are_new (x ∷ seen) xs
