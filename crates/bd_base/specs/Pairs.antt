-- Lists of pairs of positions, as orders: (i, j) says that i is before j.
use Rattle.std.specs.List.{list_any, list_all, filter}
use Rattle.std.specs.Prelude.{ℕ, zero, suc, ◌+◌, Bool, not, ◌&&◌, ◌||◌, ◌==◌, nat_lt, List, [], ◌∷◌, ◌++◌, map}

-- whether i is before j
abbrev pub is_before : List (ℕ × ℕ) → ℕ → ℕ → Bool
is_before order i j = list_any (λ p. p.0 == i && p.1 == j) order

-- i is before each of the k positions from j on
abbrev pub before_each : ℕ → ℕ → ℕ → List (ℕ × ℕ)
before_each i j zero = []
before_each i j (suc k) = (i, j) ∷ before_each i (j + 1) k

-- each of the k positions from i on is before those behind it
abbrev pub in_turn : ℕ → ℕ → List (ℕ × ℕ)
in_turn i zero = []
in_turn i (suc k) = before_each i (i + 1) k ++ in_turn (i + 1) k

-- the order of n positions in which each is before all later ones
abbrev pub total_order : ℕ → List (ℕ × ℕ)
total_order n = in_turn 0 n

-- the positions that i is before
abbrev pub after_of : List (ℕ × ℕ) → ℕ → List ℕ
after_of order i = map (λ p. p.1) (filter (λ p. p.0 == i) order)

-- whether i is before k wherever i is before some j and j is before k
abbrev pub is_closed : List (ℕ × ℕ) → Bool
is_closed order = list_all (λ p. list_all (λ q. not (p.1 == q.0) || is_before order p.0 q.1) order) order

-- the positions that are before j
abbrev pub before_of : List (ℕ × ℕ) → ℕ → List ℕ
before_of order j = map (λ p. p.0) (filter (λ p. p.1 == j) order)

-- whether each pair has its smaller position first
abbrev pub have_rising_pairs : List (ℕ × ℕ) → Bool
have_rising_pairs order = list_all (λ p. nat_lt p.0 p.1) order

-- the list without the pair, wherever it stands
abbrev pub without_pair : ℕ → ℕ → List (ℕ × ℕ) → List (ℕ × ℕ)
without_pair i j order = filter (λ p. not (p.0 == i && p.1 == j)) order
