-- Inner: serves this crate's own proofs alone.
-- How many ordered step pairs come by grouping a left side, and how many can go with its ordering.
use Rattle.std.specs.List.{AllByRecursion, enumerate_from, list_any}
use Rattle.std.specs.Prelude.{◌≡◌, ℕ, ◌+◌, ◌*◌, ◌⊎◌, ◌≤◌, false, cond, List, [], ◌∷◌, length, map}
use Rattle.bd_base.specs.Facts.{has}
use Rattle.bd_base.specs.Pairs.{is_before}
use Rattle.bd_tree.specs.declared.node.Node.{Node}
use Rattle.bd_tree.specs.Convex.{is_member}
use Rattle.bd_tree.specs.Tree.{id_of, steps_of}
use Rattle.bd_shape.specs.Restricted.{members}
use Rattle.bd_tight.specs.Gains.{are_short}
use Rattle.bd_walk.specs.declared.adding.Adds.{Adds}

-- what each has, added up
abbrev pub sum : {X : Type 0} → (X → ℕ) → List X → ℕ
sum f [] = 0
sum f (x ∷ xs) = f x + sum f xs

-- the steps of the nodes with these ids
abbrev pub side_steps : List ℕ → List Node → ℕ
side_steps ids nodes = sum (λ n. cond (has ids (id_of n)) (steps_of n) 0) nodes

-- the places of the kids with these ids, and how many steps they have
abbrev pub spots : List ℕ → List (ℕ × Node) → List (ℕ × ℕ)
spots ids kids = map (λ k. (k.0, steps_of k.1)) (members ids kids)

-- the steps of those that a place isn't before
abbrev pub missed : List (ℕ × ℕ) → ℕ → List (ℕ × ℕ) → ℕ
missed order c spots = sum (λ m. cond (is_before order c m.0) 0 m.1) spots

-- the step pairs that come by a kid at a place: once it is before some, it is before all
abbrev pub added_by : List (ℕ × ℕ) → List (ℕ × ℕ) → ℕ → ℕ → ℕ
added_by order spots c steps = cond (list_any (λ m. is_before order c m.0) spots) (steps * missed order c spots) 0

-- those that come by the kids that aren't grouped
abbrev pub added : List ℕ → List (ℕ × ℕ) → List (ℕ × ℕ) → List (ℕ × Node) → ℕ
added ids order spots kids = sum (λ k. cond (is_member ids k) 0 (added_by order spots k.0 (steps_of k.1))) kids

-- this is known of the left side
pub record AddsFor (kids : List Node) (order : List (ℕ × ℕ)) (left : List ℕ) (a : Adds) : Type 0 where
  pub steps : a.steps ≡ side_steps left kids
  pub pairs : a.pairs ≤ added left order (spots left (enumerate_from 0 kids)) (enumerate_from 0 kids)

-- the sides overlap or are too long, or as many step pairs come by grouping the left one as can go
abbrev pub IsHopeless : ℕ → List Node → List (ℕ × ℕ) → List ℕ → List ℕ → Type 0
IsHopeless span kids order left right =
    (are_short span left right ≡ false) ⊎ ((2 ≤ length left) × (side_steps left kids * side_steps right kids ≤ added left order (spots left (enumerate_from 0 kids)) (enumerate_from 0 kids)))

-- that is so of each right side
abbrev pub AreHopeless : ℕ → List Node → List (ℕ × ℕ) → List ℕ → List (List ℕ) → Type 0
AreHopeless span kids order left rights = AllByRecursion (IsHopeless span kids order left) rights
