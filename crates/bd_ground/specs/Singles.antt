-- Inner: serves this crate's own proofs alone.
-- Sets of one fact, by the fact's number, where they were made.
use Rattle.std.specs.Prelude.{◌≡◌, ℕ, List, [], ◌∷◌, slice_get, Option, Some}

abbrev pub AreSingles : List (Option (List ℕ)) → Type 0
AreSingles sets = (n : ℕ) (set : List ℕ) → slice_get sets n ≡ Some (Some set) → set ≡ n ∷ []
