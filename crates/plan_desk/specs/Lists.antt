-- Words about lists.
use Rattle.std.specs.Prelude.{◌≡◌, ℕ, ◌+◌, ◌<◌, ◌≤◌, List, [], ◌∷◌, ◌++◌, length, cond, nat_eq, nat_lt, nat_le, ◌&&◌}

-- ys begins with xs
abbrev pub Begins : {A : Type 0} → List A → List A → Type 0
Begins {A} xs ys = (rest : List A) × (ys ≡ xs ++ rest)

abbrev pub total : {A : Type 0} → (A → ℕ) → List A → ℕ
total f [] = 0
total f (x ∷ xs) = f x + total f xs

-- how often x stands in the list
abbrev pub times : ℕ → List ℕ → ℕ
times x [] = 0
times x (y ∷ ys) = cond (nat_eq y x) 1 0 + times x ys

-- 1 for a place above low and up to high, and else 0
abbrev pub within : ℕ → ℕ → ℕ → ℕ
within low high p = cond (nat_lt low p && nat_le p high) 1 0

-- each is above the one before it and above low, and none is above high
abbrev pub Rises : ℕ → ℕ → List ℕ → Type 0
Rises low high [] = low ≤ high
Rises low high (x ∷ xs) = (low < x) × Rises x high xs

abbrev pub insert : ℕ → List ℕ → List ℕ
insert x [] = x ∷ []
insert x (y ∷ ys) = cond (nat_lt x y) (x ∷ y ∷ ys) (y ∷ insert x ys)

-- the numbers of both lists in rising order
abbrev pub merged : List ℕ → List ℕ → List ℕ
merged [] ys = ys
merged (x ∷ xs) ys = merged xs (insert x ys)

-- the longer of two lists, the first where they are as long
abbrev pub longer : {A : Type 0} → List A → List A → List A
longer xs ys = cond (nat_lt (length xs) (length ys)) ys xs
