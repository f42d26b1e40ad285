-- The order of a block over its kids: strictly rising pairs of positions in range, closed.
use Rattle.std.specs.List.{list_all}
use Rattle.std.specs.Prelude.{ℕ, Bool, true, ◌&&◌, ◌||◌, ◌==◌, nat_lt, List, [], ◌∷◌}
use Rattle.bd_base.specs.Pairs.{is_closed}

-- whether a pair comes before another: by the first position, and then by the second
abbrev pub is_less : ℕ × ℕ → ℕ × ℕ → Bool
is_less p q = nat_lt p.0 q.0 || (p.0 == q.0 && nat_lt p.1 q.1)

-- whether each pair comes before all later ones
abbrev pub is_rising : List (ℕ × ℕ) → Bool
is_rising [] = true
is_rising (p ∷ ps) = list_all (is_less p) ps && is_rising ps

-- whether the pair has i < j < n
abbrev pub is_within : ℕ → ℕ × ℕ → Bool
is_within n p = nat_lt p.0 p.1 && nat_lt p.1 n

-- an order of n kids
abbrev pub is_order : ℕ → List (ℕ × ℕ) → Bool
is_order n order = list_all (is_within n) order && is_rising order && is_closed order
