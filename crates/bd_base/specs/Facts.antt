-- Sets of facts, as lists of numbers that rise.
use Rattle.std.specs.List.{list_all}
use Rattle.std.specs.Prelude.{ℕ, ◌<◌, Bool, false, cond, not, ◌||◌, ◌==◌, nat_lt, List, [], ◌∷◌, filter}

-- x is below each of the list
abbrev pub IsBelowAll : ℕ → List ℕ → Type 0
IsBelowAll x [] = Unit {0}
IsBelowAll x (y ∷ ys) = (x < y) × IsBelowAll x ys

-- each is below all later ones
abbrev pub IsRising : List ℕ → Type 0
IsRising [] = Unit {0}
IsRising (x ∷ xs) = IsBelowAll x xs × IsRising xs

-- whether a fact is in the set
abbrev pub has : List ℕ → ℕ → Bool
has [] f = false
has (x ∷ xs) f = x == f || has xs f

-- the set with the fact, in its place
abbrev pub insert_fact : ℕ → List ℕ → List ℕ
insert_fact f [] = f ∷ []
insert_fact f (x ∷ xs) = cond (nat_lt f x) (f ∷ x ∷ xs) (x ∷ cond (nat_lt x f) (insert_fact f xs) xs)

-- the set without the fact
abbrev pub remove_fact : ℕ → List ℕ → List ℕ
remove_fact f xs = filter (λ x. not (x == f)) xs

-- whether each fact of the first is in the second
abbrev pub is_subset : List ℕ → List ℕ → Bool
is_subset xs s = list_all (λ x. has s x) xs

-- the set without the facts of a list
abbrev pub minus : List ℕ → List ℕ → List ℕ
minus s [] = s
minus s (f ∷ fs) = minus (remove_fact f s) fs

-- the set with the facts of a list
abbrev pub plus : List ℕ → List ℕ → List ℕ
plus s [] = s
plus s (f ∷ fs) = plus (insert_fact f s) fs
