-- What the counts of a core's tree are after a replacement.
use Rattle.std.proofs.Common.{◌≡◌, ℕ, zero, suc, ◌+◌, ◌<◌, ◌≤◌, ◌^◌, Bool, true, false, not, ◌||◌, nat_lt, nat_le, if◌then◌else◌, List, [], ◌∷◌, length, length-append, map, Some, None, refl, ap, ◌∙◌, subst, inl, inr, slice_get, arith}
use Rattle.std.specs.List.{list_all, AllByRecursion, All, slice_index_or}
use Rattle.std.proofs.lemmas.Bool.{ltb-true, le-leb, cases_lt}
use Rattle.std.specs.Option.{is_some}
use Rattle.bd_task.specs.TaskView.{TaskView}
use Rattle.bd_task.specs.Valid.{cost_of, cost_by}
use Rattle.bd_tree.specs.declared.node.Node.{Node, Step, Block}
use Rattle.bd_tree.specs.Tree.{steps_of, nodes_of, ids_of, greatest, listed_of, total, joined}
use Rattle.bd_tree.specs.WellFormed.{IsWellFormed}
use Rattle.bd_tree.proofs.NodeLemmas.{steps_of-Step, steps_of-Block, nodes_of-Step, nodes_of-Block, listed_of-Step, listed_of-Block}
use Rattle.bd_tree.proofs.BoundLemmas.{steps_within}
use Rattle.bd_links.specs.Sound.{are_below}
use Rattle.bd_links.proofs.Steps.{cost_of-append}
use Rattle.bd_merge.specs.Merged.{merged}
use Rattle.bd_merge.specs.Stands.{IsThere}
use Rattle.bd_merge.specs.declared.window.Window.{Window}
use Rattle.bd_merge.proofs.WholeLemmas.{merged_well_formed}
use Rattle.bd_merge.proofs.IdLemmas.{merged_top}
use Rattle.bd_shape.specs.Measures.{AddUpAlike}
use Rattle.bd_shape.specs.Tightened.{both_taken}
use Rattle.plan_core.specs.Sides.{CanTighten}
use Rattle.plan_core.specs.Rebuilt.{leaves_of, rebuilt}
use Rattle.plan_core.specs.Core.{CoreView, accepted}
use Rattle.plan_core.specs.Law.{HasRoom}
use Rattle.plan_core.specs.Replies.{IsOpen, AreKnown, IsAt, IsShort, MayReplace, HasSides, AreSides, MayTighten, MayRebuild, merged_in, tightened_in, unknown_of}
use Rattle.plan_core.specs.declared.offer.Offer.TheVariants.{Replace, Tighten, Rebuild}
use Rattle.plan_core.proofs.MeasureLemmas.{clash, counted_merge}
use Rattle.plan_core.proofs.DepthLemmas.{merged_depth}
use Rattle.plan_core.proofs.RangeLemmas.{merged_below, carried_below, rebuilt_below, below_alike}
use Rattle.plan_core.proofs.TightenLemmas.{can_tighten, few_taken, tightened_alike, tightened_nodes, tightened_top, tightened_well_formed}
use Rattle.plan_core.proofs.RebuildLemmas.{sum_of_leaves, rebuilt_steps, rebuilt_nodes, rebuilt_depth, rebuilt_top, rebuilt_well_formed}

ones : (list : List ℕ) → total (map (λ (a : ℕ). 1) list) ≡ length list
ones [] = refl
ones (a ∷ list) = omega (arith, ones list)

module _ (root : Node) (window : Window) (list : List ℕ) (next : ℕ) (formed : IsWellFormed root) (there : IsThere root window) where
  pub merged_steps : steps_of (merged root window list next) + total (map steps_of window.kids) ≡ steps_of root + length list
  merged_steps = omega (arith, counted_merge window list next steps_of 0 (λ a. 1) steps_of-Step (λ id kids order. omega (arith, steps_of-Block id kids order)) root formed.distinct there, ones list)

  pub merged_nodes : nodes_of (merged root window list next) + total (map nodes_of window.kids) ≡ nodes_of root + length list
  merged_nodes = omega (arith, counted_merge window list next nodes_of 1 (λ a. 1) nodes_of-Step nodes_of-Block root formed.distinct there, ones list)

few_each : (kids : List Node) → total (map steps_of kids) ≤ total (map nodes_of kids)
few_each [] = omega arith
few_each (k ∷ ks) = omega (arith, steps_within k, few_each ks)

-- the cost of the listed steps is a count
module _ (task : TaskView) where
  abbrev cost : Node → ℕ
  cost n = cost_of task (listed_of n)

  abbrev cost_each : ℕ → ℕ
  cost_each a = cost_by (slice_get task.actions a)

  cost-Step : (id a : ℕ) → cost (Step id a) ≡ cost_each a
  cost-Step id a = omega (arith, ap (cost_of task) (listed_of-Step id a))

  cost_joined : (kids : List Node) → cost_of task (joined (map listed_of kids)) ≡ total (map cost kids)
  cost_joined [] = refl
  cost_joined (k ∷ ks) = omega (arith, cost_of-append task (listed_of k) (joined (map listed_of ks)), cost_joined ks)

  cost-Block : (id : ℕ) (kids : List Node) (order : List (ℕ × ℕ)) → cost (Block id kids order) ≡ 0 + total (map cost kids)
  cost-Block id kids order = omega (arith, ap (cost_of task) (listed_of-Block id kids order), cost_joined kids)

  cost_total : (list : List ℕ) → total (map cost_each list) ≡ cost_of task list
  cost_total [] = refl
  cost_total (a ∷ list) = omega (arith, cost_total list)

  pub merged_cost : (root : Node) (window : Window) (list : List ℕ) (next : ℕ) → IsWellFormed root → IsThere root window →
      cost_of task (listed_of (merged root window list next)) + cost_of task (joined (map listed_of window.kids)) ≡ cost_of task (listed_of root) + cost_of task list
  merged_cost root window list next formed there =
      omega (arith, counted_merge window list next cost 0 cost_each cost-Step cost-Block root formed.distinct there, cost_joined window.kids, cost_total list)

-- the list's numbers are in range
pub known_all : (n : ℕ) (list : List ℕ) → unknown_of n list ≡ None → AllByRecursion (λ a. a < n) list
known_all n [] e = tt
known_all n (a ∷ list) e = at (nat_lt a n) refl e (known_all n list)
  where
    at : (b : Bool) → nat_lt a n ≡ b → (if not b then Some a else unknown_of n list) ≡ None → (unknown_of n list ≡ None → AllByRecursion (λ a. a < n) list) → (a < n) × AllByRecursion (λ a. a < n) list
    at true is e rest = (ltb-true a n is, rest e)
    at false is e rest = absurd (clash (is_some (Some a)) refl (ap is_some e))

module _ (core : CoreView) (window : Window) (list : List ℕ) (room : HasRoom core) (at : IsAt core window) where
  pub carried_steps : total (map steps_of window.kids) ≤ steps_of core.tree
  carried_steps = omega (arith, merged_steps core.tree window [] core.next room.formed at.0)

  pub carried_nodes : total (map nodes_of window.kids) ≤ nodes_of core.tree
  carried_nodes = omega (arith, merged_nodes core.tree window [] core.next room.formed at.0)

  pub carried_in_range : list_all (λ b. b) (map (are_below (length core.task.actions)) window.kids) ≡ true
  carried_in_range = carried_below (length core.task.actions) core.tree window at.0 room.in_range

  pub steps_in : steps_of (merged_in core window list) + total (map steps_of window.kids) ≡ steps_of core.tree + length list
  steps_in = merged_steps core.tree window list core.next room.formed at.0

  pub list_short : IsShort (merged_in core window list) → length list ≤ 4_096
  list_short short = omega (arith, short, steps_in, carried_steps)

  pub merged_in_range : AreKnown core list → are_below (length core.task.actions) (merged_in core window list) ≡ true
  merged_in_range known = merged_below (length core.task.actions) core.tree window list core.next (known_all _ list known) room.in_range

-- while the core is open, its history is short
pub entries_below : (core : CoreView) → IsOpen core → length core.history < 2 ^ 24
entries_below core open' = entries (or_false _ _ open').1
  where
    or_false : (a b : Bool) → (a || b) ≡ false → (a ≡ false) × (b ≡ false)
    or_false true b e = absurd (clash true refl e)
    or_false false b e = (refl, e)

    entries : nat_le 16_777_216 (length core.history) ≡ false → length core.history < 2 ^ 24
    entries e = elim (cases_lt (length core.history) 16_777_216) [
      | inl lt ↦ omega (arith, lt)
      | inr ge ↦ absurd (clash (nat_le 16_777_216 (length core.history)) (le-leb 16_777_216 (length core.history) ge) e)
    ]

-- an accepted replacement leaves room
pub replace_leaves_room : (core : CoreView) (window : Window) (list : List ℕ) → HasRoom core → MayReplace core window list → HasRoom (accepted (Replace window list) core)
replace_leaves_room core window list room may = record {
  formed = merged_well_formed window list core.next core.tree room.formed room.fresh;
  in_range = merged_in_range core window list room may.stands may.known;
  short = may.short;
  shallow = omega (arith, merged_depth window list core.next core.tree room.formed.distinct may.stands.0, room.shallow);
  entries = omega (arith, entries_below core may.is_open, length-append core.history (Replace window list ∷ []));
  few = omega (arith, merged_nodes core.tree window list core.next room.formed may.stands.0, steps_in core window list room may.stands, few_each window.kids, room.few, length-append core.history (Replace window list ∷ []));
  fresh = merged_top window list core.next core.tree room.fresh;
  ids = omega (arith, room.ids, list_short core window list room may.stands may.short, length-append core.history (Replace window list ∷ []));
}

-- the same by lists and numbers that are equal
pub in_range_of : (n m : ℕ) (kids ks : List Node) → n ≡ m → ks ≡ kids → list_all (λ b. b) (map (are_below m) kids) ≡ true → list_all (λ b. b) (map (are_below n) ks) ≡ true
in_range_of n m kids ks same lists h = ap (λ z. list_all (λ b. b) (map (are_below z) ks)) same ∙ ap (λ z. list_all (λ b. b) (map (are_below m) z)) lists ∙ h

all_from : (P : ℕ → Type 0) (list : List ℕ) → AllByRecursion P list → All P list
all_from P [] h = λ k d lt. absurd (omega arith)
all_from P (a ∷ list) h = at (all_from P list h.1)
  where
    at : All P list → (k d : ℕ) → k < length (a ∷ list) → P (slice_index_or (a ∷ list) k d)
    at rest zero d lt = h.0
    at rest (suc k) d lt = rest k d (omega arith)

pub all_known : (n m : ℕ) (list : List ℕ) → m ≡ n → unknown_of m list ≡ None → All (λ a. a < n) list
all_known n m list same e = all_from (λ a. a < n) list (known_all n list (subst (λ z. unknown_of z list ≡ None) same e))

-- the next id is small
pub next_small : (core : CoreView) → HasRoom core → core.next < 2 ^ 63
next_small core room = omega (arith, room.ids, room.entries)

-- few nodes, for what counts them
pub few_nodes : (core : CoreView) → HasRoom core → nodes_of core.tree < 2 ^ 32
few_nodes core room = omega (arith, room.few, room.short, room.entries)

-- an accepted rebuild leaves room
pub rebuild_leaves_room : (core : CoreView) (order : List (ℕ × ℕ)) → HasRoom core → MayRebuild core order → HasRoom (accepted (Rebuild order) core)
rebuild_leaves_room core order room may = record {
  formed = rebuilt_well_formed core.tree order room.formed may.orderly;
  in_range = rebuilt_below (length core.task.actions) core.tree order room.in_range;
  short = omega (arith, rebuilt_steps core.tree order, room.short);
  shallow = omega (arith, rebuilt_depth core.tree order);
  entries = omega (arith, entries_below core may.is_open, length-append core.history (Rebuild order ∷ []));
  few = omega (arith, rebuilt_nodes core.tree order, rebuilt_steps core.tree order);
  fresh = omega (arith, rebuilt_top core.tree order, room.fresh);
  ids = omega (arith, room.ids, length-append core.history (Rebuild order ∷ []));
}

-- a rebuild changes no cost
pub rebuilt_cost : (task : TaskView) (root : Node) (order : List (ℕ × ℕ)) → cost_of task (listed_of (rebuilt root order)) ≡ cost_of task (listed_of root)
rebuilt_cost task root order =
    omega (arith, cost-Block task 0 (leaves_of root) order, sum_of_leaves (cost task) (λ id kids o. omega (arith, cost-Block task id kids o)) root)

-- the tree of a tightening
module _ (core : CoreView) (block : ℕ) (left right : List ℕ) (room : HasRoom core) (there : HasSides core block left right) (sides : AreSides core block left right) where
  can : CanTighten core.tree block left right core.next
  can = can_tighten core.tree block left right core.next room.formed room.fresh there sides

  alike : AddUpAlike core.tree (tightened_in core block left right)
  alike = tightened_alike core.tree block left right core.next room.formed room.fresh can

  pub tightened_in_range : are_below (length core.task.actions) (tightened_in core block left right) ≡ true
  tightened_in_range = below_alike (length core.task.actions) core.tree (tightened_in core block left right) alike room.in_range

  pub tightened_steps : steps_of (tightened_in core block left right) ≡ steps_of core.tree
  tightened_steps = alike steps_of steps_of-Block

  pub tightened_few : nodes_of (tightened_in core block left right) ≤ nodes_of core.tree + 2
  tightened_few = omega (arith, tightened_nodes core.tree block left right core.next room.formed room.fresh can, few_taken left, few_taken right)

  pub tightened_small : nodes_of (tightened_in core block left right) < 2 ^ 32
  tightened_small = omega (arith, tightened_few, room.few, room.short, room.entries)

  pub tightened_cost : cost_of core.task (listed_of (tightened_in core block left right)) ≡ cost_of core.task (listed_of core.tree)
  tightened_cost = alike (cost core.task) (λ id kids o. omega (arith, cost-Block core.task id kids o))

  tightened_formed : IsWellFormed (tightened_in core block left right)
  tightened_formed = tightened_well_formed core.tree block left right core.next room.formed room.fresh can

  tightened_fresh : greatest (ids_of (tightened_in core block left right)) < core.next + both_taken left right
  tightened_fresh = tightened_top core.tree block left right core.next room.formed room.fresh can

-- an accepted tightening leaves room
pub tighten_leaves_room : (core : CoreView) (block : ℕ) (left right : List ℕ) → HasRoom core → MayTighten core block left right → HasRoom (accepted (Tighten block left right) core)
tighten_leaves_room core block left right room may = record {
  formed = tightened_formed core block left right room may.there may.sides;
  in_range = tightened_in_range core block left right room may.there may.sides;
  short = omega (arith, tightened_steps core block left right room may.there may.sides, room.short);
  shallow = may.shallow;
  entries = omega (arith, entries_below core may.is_open, length-append core.history (Tighten block left right ∷ []));
  few = omega (
    arith,
    tightened_few core block left right room may.there may.sides,
    tightened_steps core block left right room may.there may.sides,
    room.few,
    length-append core.history (Tighten block left right ∷ []),
  );
  fresh = tightened_fresh core block left right room may.there may.sides;
  ids = omega (arith, few_taken left, few_taken right, room.ids, length-append core.history (Tighten block left right ∷ []));
}
