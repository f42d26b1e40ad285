-- The place of the first element that passes a test.
use Rattle.std.specs.Prelude.{ℕ, ◌+◌, Bool, cond, List, [], ◌∷◌, ◌++◌, slice_set, slice_index_or, Option, Some, None}

-- a place so many further on
abbrev pub shifted : ℕ → Option ℕ → Option ℕ
shifted n None = None
shifted n (Some k) = Some (n + k)

abbrev pub place_by : {X : Type 0} → (X → Bool) → List X → Option ℕ
place_by t [] = None
place_by t (x ∷ xs) = cond (t x) (Some 0) (shifted 1 (place_by t xs))

-- the first place, or else the other
abbrev pub first_place : Option ℕ → Option ℕ → Option ℕ
first_place None other = other
first_place (Some n) other = Some n

-- the places where one is noted for a number, unless it has one
abbrev pub noted : List (Option ℕ) → Option ℕ → ℕ → List (Option ℕ)
noted places None a = places
noted places (Some k) a = slice_set places k (first_place (slice_index_or places k None) (Some a))

-- a list behind another, where it is there
abbrev pub behind : List ℕ → Option (List ℕ) → Option (List ℕ)
behind xs None = None
behind xs (Some ys) = Some (xs ++ ys)
