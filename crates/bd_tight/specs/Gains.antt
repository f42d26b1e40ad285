-- Inner: serves this crate's own proofs alone.
-- The first candidate that qualifies, in the order in which the body looks.
use Rattle.std.specs.List.{list_all, filter}
use Rattle.std.specs.Option.{is_none}
use Rattle.std.specs.Prelude.{◌≡◌, ℕ, ◌+◌, ◌≤◌, Bool, true, cond, not, ◌&&◌, nat_lt, List, [], ◌∷◌, length, map, Option, Some, None, slice_get}
use Rattle.bd_base.specs.Facts.{has}
use Rattle.bd_task.specs.declared.ground.Action.{Action}
use Rattle.bd_task.specs.TaskView.{TaskView}
use Rattle.bd_tree.specs.declared.node.Node.{Node, Block}
use Rattle.bd_tree.specs.declared.node.Node.TheOpen.{Node-F}
use Rattle.bd_tree.specs.declared.node.Node.TheFolds.{fold-Node}
use Rattle.bd_tree.specs.declared.node.Node.TheViews.{out-Node}
use Rattle.bd_tree.specs.Misfit.{leads_to}
use Rattle.bd_tree.specs.Tree.{joined, find_in, first_some, depth_of, nodes_of, pairs_of}
use Rattle.bd_tree.specs.WellFormed.{IsWellFormed}
use Rattle.bd_links.specs.Child.{Child}
use Rattle.bd_links.specs.declared.parts.Effects.{Effects}
use Rattle.bd_links.specs.Sound.{are_below, child_of, first_fault}
use Rattle.bd_shape.specs.Grouped.{side_id}
use Rattle.bd_shape.specs.Hull.{hull_of}
use Rattle.bd_shape.specs.Measures.{AddUpAlike}
use Rattle.bd_shape.specs.Tightened.{both_grouped, right_fresh}
use Rattle.bd_shape.specs.Unordered.{CanUnorder}
use Rattle.bd_reason.specs.Reasons.{reasons_of, fact_of}
use Rattle.bd_tight.specs.declared.gain.Gain.{Gain}
use Rattle.bd_tight.specs.Candidates.{concerns, fits, fresh_of, tree_of}

-- whether the sides have no kid in common and at most `span` members
abbrev pub are_short : ℕ → List ℕ → List ℕ → Bool
are_short span left right = list_all (λ x. not (has right x)) left && not (nat_lt span (length left)) && not (nat_lt span (length right))

-- the candidate fits, and this is the tree in which both sides are grouped; they can be unordered in it
pub record MakesBoth (root : Node) (span : ℕ) (c : Gain) (both : Node) : Type 0 where
  pub fit : fits root span c ≡ true
  pub is : both ≡ both_grouped root c.block c.left c.right (fresh_of root)
  pub unorders : CanUnorder both c.block (side_id c.left (fresh_of root)) (side_id c.right (right_fresh c.left (fresh_of root)))
  pub few : nodes_of both ≤ nodes_of root + 2
  pub alike : AddUpAlike root both

-- the candidate fits, and this is its tree
pub record Makes (root : Node) (span : ℕ) (c : Gain) (made : Node) : Type 0 where
  pub fit : fits root span c ≡ true
  pub is : made ≡ tree_of root c
  pub few : nodes_of made ≤ nodes_of root + 2
  pub below : (n : ℕ) → are_below n root ≡ true → are_below n made ≡ true

-- whether a tree that is made of another has fewer ordered step pairs, at most 64 levels, and no fault
abbrev pub is_better : TaskView → Node → Node → Bool
is_better task root made = nat_lt (pairs_of made) (pairs_of root) && not (nat_lt 64 (depth_of made)) && is_none (first_fault task made)

abbrev pub qualifies : TaskView → Node → Gain → Bool
qualifies task root c = is_better task root (tree_of root c)

-- the candidate of two sides, if it fits and qualifies
abbrev pub gain_if : TaskView → Node → ℕ → Gain → Option Gain
gain_if task root span c = cond (fits root span c && qualifies task root c) (Some c) None

abbrev pub gain_with : TaskView → Node → ℕ → ℕ → List (List ℕ) → List ℕ → Option Gain
gain_with task root span block rights left = first_some (map (λ right. gain_if task root span (record { block = block; left = left; right = right })) rights)

abbrev pub gain_among : TaskView → Node → ℕ → ℕ → List (List ℕ) → List (List ℕ) → Option Gain
gain_among task root span block lefts rights = first_some (map (gain_with task root span block rights) lefts)

-- the facts of the reasons of two
abbrev pub facts_between : Effects → Effects → List ℕ
facts_between a b = map fact_of (reasons_of a b)

-- the ids of the kids that need, give or delete one of the facts
abbrev pub ids_related : List ℕ → List Child → List ℕ
ids_related facts kids = map (λ c. c.id) (filter (λ c. concerns facts c.effects) kids)

-- what a side may be, by ids
abbrev pub sides_by : Node → ℕ → List ℕ → List (List ℕ)
sides_by block id others = (id ∷ []) ∷ map (hull_of block id) others

-- the block with the id stands in the tree, and these are its kids with their effects
pub record StandsIn (actions : List Action) (root : Node) (own : ℕ) (block : Node) (known : List Child) : Type 0 where
  pub kids : List Node
  pub order : List (ℕ × ℕ)
  pub well : IsWellFormed root
  pub found : find_in own root ≡ Some (Block own kids order)
  pub is : block ≡ Block own kids order
  pub known_are : known ≡ map (child_of actions) kids

-- the id is that of one of them
abbrev pub HasId : List Child → ℕ → Type 0
HasId known id = has (map (λ c. c.id) known) id ≡ true

abbrev pub gain_of_two : TaskView → Node → ℕ → ℕ → Node → List Child → Option Child → Option Child → Option Gain
gain_of_two task root span own block kids None second = None
gain_of_two task root span own block kids (Some a) None = None
gain_of_two task root span own block kids (Some a) (Some b) =
    gain_among task root span own (sides_by block a.id (ids_related (facts_between a.effects b.effects) kids)) (sides_by block b.id (ids_related (facts_between a.effects b.effects) kids))

-- the gain of a pair with nothing between
abbrev pub gain_at : TaskView → Node → ℕ → ℕ → Node → List Child → List (ℕ × ℕ) → ℕ × ℕ → Option Gain
gain_at task root span own block kids order p = cond (leads_to order p) None (gain_of_two task root span own block kids (slice_get kids p.0) (slice_get kids p.1))

abbrev pub gain_of_pairs : TaskView → Node → ℕ → ℕ → Node → List Child → List (ℕ × ℕ) → Option Gain
gain_of_pairs task root span own block kids order = first_some (map (gain_at task root span own block kids order) order)

abbrev pub gain_in_layer : TaskView → Node → ℕ → Node → Node-F Node → Option Gain
gain_in_layer task root span block (Node-F.Step id action) = None
gain_in_layer task root span block (Node-F.Block own kids order) = gain_of_pairs task root span own block (map (child_of task.actions) kids) order

abbrev pub gain_in : TaskView → Node → ℕ → Option Node → Option Gain
gain_in task root span None = None
gain_in task root span (Some block) = gain_in_layer task root span block (out-Node block)

abbrev pub blocks_step : Node-F (List ℕ) → List ℕ
blocks_step (Node-F.Step id action) = []
blocks_step (Node-F.Block id kids order) = id ∷ joined kids

-- the ids of the blocks of a tree, each before those in it
abbrev pub blocks_of : Node → List ℕ
blocks_of = fold-Node (List ℕ) blocks_step

abbrev pub first_gain : TaskView → Node → ℕ → Option Gain
first_gain task root span = first_some (map (λ id. gain_in task root span (find_in id root)) (blocks_of root))
