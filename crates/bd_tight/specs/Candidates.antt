-- The candidates for tightening a tree, and tight trees.
use Rattle.std.specs.List.{list_any, list_all, filter, AllByRecursion}
use Rattle.std.specs.Prelude.{◌≡◌, ℕ, ◌+◌, ◌⊎◌, ◌<◌, ◌≤◌, Bool, true, false, not, ◌&&◌, ◌||◌, nat_lt, List, [], ◌∷◌, ◌++◌, length, map, Option, Some, None, slice_get}
use Rattle.bd_base.specs.Facts.{has}
use Rattle.bd_base.specs.Pairs.{is_before}
use Rattle.bd_task.specs.declared.ground.Action.{Action}
use Rattle.bd_task.specs.TaskView.{TaskView}
use Rattle.bd_tree.specs.declared.node.Node.{Node, Block}
use Rattle.bd_tree.specs.declared.node.Node.TheOpen.{Node-F}
use Rattle.bd_tree.specs.declared.node.Node.TheFolds.{para-Node}
use Rattle.bd_tree.specs.Misfit.{leads_to}
use Rattle.bd_tree.specs.Tree.{id_of, ids_of, find_in, greatest, depth_of, pairs_of}
use Rattle.bd_links.specs.declared.parts.Effects.{Effects}
use Rattle.bd_links.specs.Sound.{effects_of, IsSound}
use Rattle.bd_shape.specs.Grouped.{grouped, side_id}
use Rattle.bd_shape.specs.Hull.{between_at, hull_of}
use Rattle.bd_shape.specs.Kids.{convex_at}
use Rattle.bd_shape.specs.Tightened.{right_fresh, both_grouped, tightened}
use Rattle.bd_reason.specs.Reasons.{reasons_of, fact_of}
use Rattle.bd_tight.specs.declared.gain.Gain.{Gain}

-- the lists one after another
abbrev pub flat : {X : Type 0} → List (List X) → List X
flat [] = []
flat (xs ∷ rest) = xs ++ flat rest

-- a block of the tree
pub record Level : Type 0 where
  pub own : ℕ
  pub kids : List Node
  pub order : List (ℕ × ℕ)

abbrev pub levels_step : Node-F (Node × List Level) → List Level
levels_step (Node-F.Step id action) = []
levels_step (Node-F.Block own kids order) = record { own = own; kids = map (λ k. k.0) kids; order = order } ∷ flat (map (λ k. k.1) kids)

-- the blocks of a tree, each before those in it
abbrev pub levels_of : Node → List Level
levels_of = para-Node (List Level) levels_step

-- the pairs of an order with nothing between, in turn
abbrev pub covers : List (ℕ × ℕ) → List (ℕ × ℕ)
covers order = filter (λ p. not (leads_to order p)) order

-- whether a node needs, gives or deletes one of the facts
abbrev pub concerns : List ℕ → Effects → Bool
concerns facts e = list_any (λ p. has e.need p || has e.add p || has e.del p) facts

-- the kids of a block that have to do with a reason of two of them
abbrev pub related : List Action → List Node → Node → Node → List Node
related actions kids a b = filter (λ k. concerns (map fact_of (reasons_of (effects_of actions a) (effects_of actions b))) (effects_of actions k)) kids

-- what a side may be: the kid alone, or the hull of it and a related kid
abbrev pub sides_of : Node → Node → List Node → List (List ℕ)
sides_of block kid others = (id_of kid ∷ []) ∷ map (λ k. hull_of block (id_of kid) (id_of k)) others

-- each left side with each right one
abbrev pub with_each : ℕ → List (List ℕ) → List (List ℕ) → List Gain
with_each block lefts rights = flat (map (λ left. map (λ right. record { block = block; left = left; right = right }) rights) lefts)

-- an id that is free
abbrev pub fresh_of : Node → ℕ
fresh_of root = greatest (ids_of root) + 1

-- the tree in which the left side is grouped, then the right one, and then the two are unordered
abbrev pub tree_of : Node → Gain → Node
tree_of root c = tightened root c.block c.left c.right (fresh_of root)

-- whether the sides have no kid in common and at most `span` members, the right one is convex once the left one is
-- grouped, and nothing is between them once both are grouped
abbrev pub fits : Node → ℕ → Gain → Bool
fits root span c =
    list_all (λ x. not (has c.right x)) c.left
    && not (nat_lt span (length c.left))
    && not (nat_lt span (length c.right))
    && convex_at c.block c.right (grouped root c.block c.left (fresh_of root))
    && not (between_at c.block (side_id c.left (fresh_of root)) (side_id c.right (right_fresh c.left (fresh_of root))) (both_grouped root c.block c.left c.right (fresh_of root)))

abbrev pub pair_candidates : List Action → Node → ℕ → Level → Option Node → Option Node → List Gain
pair_candidates actions root span l None second = []
pair_candidates actions root span l (Some a) None = []
pair_candidates actions root span l (Some a) (Some b) =
    filter (fits root span)
    (with_each l.own (sides_of (Block l.own l.kids l.order) a (related actions l.kids a b)) (sides_of (Block l.own l.kids l.order) b (related actions l.kids a b)))

abbrev pub level_candidates : List Action → Node → ℕ → Level → List Gain
level_candidates actions root span l = flat (map (λ p. pair_candidates actions root span l (slice_get l.kids p.0) (slice_get l.kids p.1)) (covers l.order))

-- the candidates of a tree at a span: by blocks, each before those in it, then by pairs, then by left sides, then by right ones
abbrev pub candidates : List Action → Node → ℕ → List Gain
candidates actions root span = flat (map (level_candidates actions root span) (levels_of root))

-- the candidate's tree is sound and not too deep, and has fewer ordered step pairs
pub record Qualifies (task : TaskView) (root : Node) (c : Gain) : Type 0 where
  pub sound : IsSound task (tree_of root c)
  pub fewer : pairs_of (tree_of root c) < pairs_of root
  pub shallow : depth_of (tree_of root c) ≤ 64

-- no candidate qualifies
abbrev pub IsTight : TaskView → Node → ℕ → Type 0
IsTight task root span = AllByRecursion (λ c. Qualifies task root c → ⊥) (candidates task.actions root span)

-- a side: the kid alone, or the hull of it and a kid of the block that needs, gives or deletes one of the facts
abbrev pub IsSide : List Action → Node → List Node → List ℕ → Node → List ℕ → Type 0
IsSide actions block kids facts kid side = (side ≡ id_of kid ∷ []) ⊎ ((q : ℕ) × (k : Node) × (slice_get kids q ≡ Some k) × (concerns facts (effects_of actions k) ≡ true) × (side ≡ hull_of block (id_of kid) (id_of k)))

-- a candidate of a tree at a span: two kids of a block, the one before the other with nothing between, and a side of each that fit
pub record IsCandidate (actions : List Action) (root : Node) (span : ℕ) (c : Gain) : Type 0 where
  pub kids : List Node
  pub order : List (ℕ × ℕ)
  pub found : find_in c.block root ≡ Some (Block c.block kids order)
  pub i : ℕ
  pub j : ℕ
  pub first : Node
  pub second : Node
  pub at_i : slice_get kids i ≡ Some first
  pub at_j : slice_get kids j ≡ Some second
  pub ordered : is_before order i j ≡ true
  pub free : leads_to order (i, j) ≡ false
  pub left : IsSide actions (Block c.block kids order) kids (map fact_of (reasons_of (effects_of actions first) (effects_of actions second))) first c.left
  pub right : IsSide actions (Block c.block kids order) kids (map fact_of (reasons_of (effects_of actions first) (effects_of actions second))) second c.right
  pub fit : fits root span c ≡ true
