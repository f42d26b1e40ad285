-- The family of windows of a tree at a width.
use Rattle.std.specs.Prelude.{◌≡◌, ℕ, ◌+◌, ◌-◌, ◌*◌, min, nat_lt, Bool, true, false, not, ◌&&◌, ◌||◌, ◌==◌, if◌then◌else◌, List, [], ◌∷◌, ◌++◌, length, map, filter, Option, Some, None}
use Rattle.std.specs.List.{list_any, enumerate_from}
use Rattle.bd_base.specs.Bits.{upto}
use Rattle.bd_base.specs.Facts.{has}
use Rattle.bd_base.specs.Pairs.{is_before}
use Rattle.bd_tree.specs.declared.node.Node.{Node}
use Rattle.bd_tree.specs.declared.node.Node.TheOpen.{Node-F}
use Rattle.bd_tree.specs.declared.node.Node.TheFolds.{para-Node}
use Rattle.bd_merge.specs.declared.window.Lean.TheVariants.{Early, Late}
use Rattle.bd_merge.specs.declared.window.Window.{Window}

-- the lists that the elements give, one after another
abbrev pub each_of : {X Y : Type 0} → (X → List Y) → List X → List Y
each_of f [] = []
each_of f (x ∷ xs) = f x ++ each_of f xs

-- the positions from the first up to the last
abbrev pub segment : ℕ → ℕ → List ℕ
segment first last = upto first (last + 1 - first)

-- the last positions of the segments from the start on, of at most width of the n positions
abbrev pub lasts : ℕ → ℕ → ℕ → List ℕ
lasts width n start = upto start (min (n - start) width)

-- each segment of the listing of at most width positions, by start and then length
abbrev pub segments : ℕ → ℕ → List (List ℕ)
segments width n = each_of (λ start. map (segment start) (lasts width n start)) (upto 0 n)

-- whether a position is one of the two, or between them in the order
abbrev pub is_in_hull : List (ℕ × ℕ) → ℕ → ℕ → ℕ → Bool
is_in_hull order i j k = k == i || k == j || is_before order i k && is_before order k j || is_before order j k && is_before order k i

-- the hull of two of n positions
abbrev pub hull : List (ℕ × ℕ) → ℕ → ℕ → ℕ → List ℕ
hull order n i j = filter (is_in_hull order i j) (upto 0 n)

-- the later positions that differ from the first by less than four times the width
abbrev pub partners : ℕ → ℕ → ℕ → List ℕ
partners width n i = upto (i + 1) (min (n - (i + 1)) (4 * width - 1))

-- the pairs of n positions i < j that differ by less than four times the width, by i and then j
abbrev pub near_pairs : ℕ → ℕ → List (ℕ × ℕ)
near_pairs width n = each_of (λ i. map (λ j. (i, j)) (partners width n i)) (upto 0 n)

abbrev pub is_same : List ℕ → List ℕ → Bool
is_same [] [] = true
is_same [] (y ∷ ys) = false
is_same (x ∷ xs) [] = false
is_same (x ∷ xs) (y ∷ ys) = x == y && is_same xs ys

-- whether the set is there yet
abbrev pub is_there : List (List ℕ) → List ℕ → Bool
is_there sets set = list_any (is_same set) sets

-- the sets with one more, if it has at most width positions and isn't there yet
abbrev pub with_set : ℕ → List (List ℕ) → List ℕ → List (List ℕ)
with_set width sets set = if not (nat_lt width (length set)) && not (is_there sets set) then sets ++ set ∷ [] else sets

abbrev pub with_hulls : ℕ → ℕ → List (ℕ × ℕ) → List (List ℕ) → List (ℕ × ℕ) → List (List ℕ)
with_hulls width n order sets [] = sets
with_hulls width n order sets (p ∷ ps) = with_hulls width n order (with_set width sets (hull order n p.0 p.1)) ps

-- the sets of positions of a block with n kids and this order
abbrev pub sets_of : ℕ → ℕ → List (ℕ × ℕ) → List (List ℕ)
sets_of width n order = with_hulls width n order (segments width n) (near_pairs width n)

-- the kids at the positions of a set, in the listing
abbrev pub kids_in : List Node → List ℕ → List Node
kids_in kids set = map (λ k. k.1) (filter (λ k. has set k.0) (enumerate_from 0 kids))

-- the two windows of a set: the early one and the late one
abbrev pub windows_of : ℕ → List Node → List ℕ → List Window
windows_of block kids set = record { block = block; kids = kids_in kids set; lean = Early } ∷ record { block = block; kids = kids_in kids set; lean = Late } ∷ []

abbrev pub family_step : ℕ → Node-F (Node × List Window) → List Window
family_step width (Node-F.Step id action) = []
family_step width (Node-F.Block id kids order) =
    each_of (windows_of id (map (λ k. k.0) kids)) (sets_of width (length kids) order) ++ each_of (λ k. k.1) kids

-- the family: the windows of each block of the tree, each block before those in it
abbrev pub family_of : ℕ → Node → List Window
family_of width = para-Node (List Window) (family_step width)

-- what a walk gives: the first of the windows that were to come, and the others are left; nothing where none was left
abbrev pub Comes : Option Window → List Window → List Window → Type 0
Comes None before left = (before ≡ []) × (left ≡ [])
Comes (Some window) before left = before ≡ window ∷ left
