-- Inner: serves this crate's own proofs alone.
-- The same family, where each set is told by its ends, and whether it is there yet by a test of its own.
use Rattle.std.specs.Prelude.{ℕ, ◌+◌, ◌-◌, ◌<◌, ◌≤◌, nat_lt, Bool, true, false, not, ◌&&◌, ◌||◌, ◌==◌, List, [], ◌∷◌, ◌++◌, length, map, filter, take, drop}
use Rattle.std.specs.List.{enumerate_from}
use Rattle.bd_base.specs.Bits.{upto}
use Rattle.bd_base.specs.Pairs.{is_before}
use Rattle.bd_tree.specs.declared.node.Node.{Node}
use Rattle.bd_tree.specs.declared.node.Node.TheOpen.{Node-F}
use Rattle.bd_tree.specs.declared.node.Node.TheFolds.{para-Node}
use Rattle.bd_merge.specs.declared.window.Lean.{Lean}
use Rattle.bd_merge.specs.declared.window.Lean.TheVariants.{Early, Late}
use Rattle.bd_merge.specs.declared.window.Window.{Window}
use Rattle.bd_window.specs.declared.pick.Pick.{Pick}
use Rattle.bd_window.specs.Family.{each_of, segment, lasts, partners}

-- whether a position from the first to the last is in the set: each, or those between the two in the order
abbrev pub takes : List (ℕ × ℕ) → Pick → ℕ → Bool
takes order pick k = not pick.is_hull || k == pick.first || k == pick.last || is_before order pick.first k && is_before order k pick.last

abbrev pub set_of : List (ℕ × ℕ) → Pick → List ℕ
set_of order pick = filter (takes order pick) (segment pick.first pick.last)

-- whether a hull has at most width positions and is no segment
abbrev pub is_new : ℕ → List (ℕ × ℕ) → Pick → Bool
is_new width order pick = not (nat_lt width (length (set_of order pick))) && nat_lt (length (set_of order pick)) (pick.last + 1 - pick.first)

abbrev pub pick_of : Bool → ℕ → ℕ → Pick
pick_of b first last = record { first = first; last = last; is_hull = b }

abbrev pub segments_at : ℕ → ℕ → ℕ → List Pick
segments_at width n start = map (pick_of false start) (lasts width n start)

abbrev pub hulls_at : ℕ → ℕ → List (ℕ × ℕ) → ℕ → List Pick
hulls_at width n order first = filter (is_new width order) (map (pick_of true first) (partners width n first))

abbrev pub picks_of : ℕ → ℕ → List (ℕ × ℕ) → List Pick
picks_of width n order = each_of (segments_at width n) (upto 0 n) ++ each_of (hulls_at width n order) (upto 0 n)

-- the kids of a set, in the listing
abbrev pub picked : List Node → List (ℕ × ℕ) → Pick → List Node
picked kids order pick = map (λ k. k.1) (filter (λ k. takes order pick k.0) (enumerate_from pick.first (take (pick.last + 1 - pick.first) (drop pick.first kids))))

abbrev pub window_of : ℕ → List Node → List (ℕ × ℕ) → Lean → Pick → Window
window_of block kids order lean pick = record { block = block; kids = picked kids order pick; lean = lean }

abbrev pub pair_of : ℕ → List Node → List (ℕ × ℕ) → Pick → List Window
pair_of block kids order pick = window_of block kids order Early pick ∷ window_of block kids order Late pick ∷ []

abbrev pub picks_step : ℕ → Node-F (Node × List Window) → List Window
picks_step width (Node-F.Step id action) = []
picks_step width (Node-F.Block id kids order) = each_of (pair_of id (map (λ k. k.0) kids) order) (picks_of width (length kids) order) ++ each_of (λ k. k.1) kids

abbrev pub picked_family : ℕ → Node → List Window
picked_family width = para-Node (List Window) (picks_step width)

-- the ends of each are two of n positions, or one
abbrev pub AreWithin : ℕ → List Pick → Type 0
AreWithin n [] = Unit {0}
AreWithin n (p ∷ ps) = (p.first ≤ p.last) × (p.last < n) × AreWithin n ps
