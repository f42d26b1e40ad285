-- How a list is decided: which kid of a block its linearisation begins with, and which kids were refused.
use Rattle.std.specs.Borrow.{Bor}
use Rattle.std.specs.Prelude.{◌≡◌, ℕ, ◌-◌, ◌<◌, ◌≤◌, ◌^◌, ◌⊎◌, List, [], ◌∷◌, ◌++◌, length, map, drop, get_or}
use Rattle.bd_tree.specs.declared.node.Node.{Node, Step}
use Rattle.bd_tree.specs.Linearisation.{IsFirst, IsLinearisation, LinearisesKids}
use Rattle.bd_tree.specs.Tree.{total, nodes_of, steps_of}

-- kids with their positions, where the nodes are borrowed
abbrev pub placed : List (ℕ × Bor Node) → List (ℕ × Node)
placed rest = map (λ k. (k.0, k.1.now)) rest

-- how many nodes kids have
abbrev pub nodes_in : List (ℕ × Node) → ℕ
nodes_in rest = total (map (λ k. nodes_of k.1) rest)

-- how many steps kids have
abbrev pub steps_in : List (ℕ × Node) → ℕ
steps_in rest = total (map (λ k. steps_of k.1) rest)

-- the positions of kids
abbrev pub positions : List (ℕ × Node) → List ℕ
positions rest = map (λ k. k.0) rest

-- the kids at these positions
abbrev pub chosen : List Node → List ℕ → List (ℕ × Node)
chosen kids set = map (λ i. (i, get_or kids i (Step 0 0))) set

-- the last n of a list
abbrev pub last_of : List ℕ → ℕ → List ℕ
last_of list n = drop (length list - n) list

-- the list is a linearisation of the kids that remain, and begins with the one at the place
pub record StartsAt (order : List (ℕ × ℕ)) (rest : List (ℕ × Node)) (list : List ℕ) (place : ℕ) : Type 0 where
  pub before : List (ℕ × Node)
  pub kid : ℕ × Node
  pub after : List (ℕ × Node)
  pub front : List ℕ
  pub back : List ℕ
  pub parts : rest ≡ before ++ kid ∷ after
  pub at_place : length before ≡ place
  pub first : IsFirst order kid.0 rest
  pub begins : IsLinearisation kid.1 front
  pub goes_on : LinearisesKids order (before ++ after) back
  pub whole : list ≡ front ++ back

-- what remains of a block's kids, and the end of the list that is theirs
pub record Remains (kids : List Node) (list : List ℕ) (rest : List (ℕ × Node)) (back : List ℕ) : Type 0 where
  pub own : rest ≡ chosen kids (positions rest)
  pub small : nodes_in rest < 2 ^ 32
  pub fits : steps_in rest ≤ length list
  pub ends : back ≡ last_of list (steps_in rest)

-- one of the sets
abbrev pub IsOneOf : List (List ℕ) → List ℕ → Type 0
IsOneOf [] set = ⊥
IsOneOf (x ∷ xs) set = (set ≡ x) ⊎ IsOneOf xs set

-- where a set of kids remains, the end of the list that would be theirs is no linearisation of them
abbrev pub AreRefused : List Node → List (ℕ × ℕ) → List ℕ → List (List ℕ) → Type 0
AreRefused kids order list sets = (set : List ℕ) → IsOneOf sets set → LinearisesKids order (chosen kids set) (last_of list (steps_in (chosen kids set))) → ⊥
