-- Inner: serves this crate's own proofs alone.
-- The closure of rows of positions.
use Rattle.std.specs.Prelude.{◌≡◌, ℕ, ◌<◌, ◌≤◌, true, List, length, ◌⊎◌}
use Rattle.bd_deorder.specs.Direct.{has_pair}

-- each pair has a smaller position first, and both are those of rows
abbrev pub IsWithin : List (List ℕ) → Type 0
IsWithin rows = (a b : ℕ) → has_pair rows a b ≡ true → (a < b) × (b < length rows)

-- where a is before b, and b before c, a is before c, for each a from i on
abbrev pub IsClosedFrom : ℕ → List (List ℕ) → Type 0
IsClosedFrom i rows = (a b c : ℕ) → i ≤ a → has_pair rows a b ≡ true → has_pair rows b c ≡ true → has_pair rows a c ≡ true

-- each pair is direct, or has something between
abbrev pub IsCovered : List (List ℕ) → List (List ℕ) → Type 0
IsCovered direct rows = (a b : ℕ) → has_pair rows a b ≡ true → (has_pair direct a b ≡ true) ⊎ ((c : ℕ) × (has_pair rows a c ≡ true) × (has_pair rows c b ≡ true))

-- the rows from i on are closed, and those before are the direct ones
pub record ClosesFrom (i : ℕ) (direct rows : List (List ℕ)) : Type 0 where
  pub len : length rows ≡ length direct
  pub within : IsWithin rows
  pub same : (a b : ℕ) → a < i → has_pair rows a b ≡ has_pair direct a b
  pub contains : (a b : ℕ) → has_pair direct a b ≡ true → has_pair rows a b ≡ true
  pub closed : IsClosedFrom i rows
  pub covered : IsCovered direct rows

-- all are closed
abbrev pub Closes : List (List ℕ) → List (List ℕ) → Type 0
Closes = ClosesFrom 0
