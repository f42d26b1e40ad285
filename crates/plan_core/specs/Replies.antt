-- The reply to an offer: the first refusal of its kind whose condition holds, else acceptance.
use Rattle.std.specs.Prelude.{◌≡◌, ℕ, ◌+◌, ◌<◌, ◌≤◌, ◌^◌, true, false, not, nat_lt, List, length, map, find, count_by, Option, Some, None, Result, Ok, Err}
use Rattle.bd_task.specs.Valid.{cost_of}
use Rattle.bd_tree.specs.declared.node.Node.{Node}
use Rattle.bd_tree.specs.Misfit.{order_misfit}
use Rattle.bd_tree.specs.Tree.{depth_of, steps_of, nodes_of, pairs_of, ids_of, greatest, listed_of, joined}
use Rattle.bd_links.specs.Faults.{fact_of}
use Rattle.bd_links.specs.Sound.{IsSound, first_fault}
use Rattle.bd_merge.specs.Merged.{merged}
use Rattle.bd_merge.specs.Stands.{Stands}
use Rattle.bd_merge.specs.declared.standing.Found.TheVariants as found
use Rattle.bd_merge.specs.declared.window.Window.{Window}
use Rattle.bd_shape.specs.Tightened.{tightened}
use Rattle.plan_core.specs.Core.{CoreView, State, state_of, tree_after, is_closed, is_due, is_replacement}
use Rattle.plan_core.specs.Rebuilt.{rebuilt}
use Rattle.plan_core.specs.Sides.{CanTighten, are_sides, has_sides}
use Rattle.plan_core.specs.declared.offer.Offer.{Offer}
use Rattle.plan_core.specs.declared.offer.Offer.TheVariants.{Replace, Tighten, Rebuild}
use Rattle.plan_core.specs.declared.refusal.Refusal.{Refusal}
use Rattle.plan_core.specs.declared.refusal.Refusal.TheVariants.{Closed, NoAction, Gone, Split, NotCheaper, TooLong, Unlinked, Between, TooDeep, NoGain, Idle, BadOrder, NoMemory}

abbrev pub IsOpen : CoreView → Type 0
IsOpen core = is_closed core.stop core.history ≡ false

-- the core is closed, and these are its replacements and the entries of its history
abbrev pub IsClosed : CoreView → ℕ → ℕ → Type 0
IsClosed core replaced entries = (replaced ≡ count_by is_replacement core.history) × (entries ≡ length core.history) × (is_closed core.stop core.history ≡ true)

-- the first of the numbers that isn't below the count of actions
abbrev pub unknown_of : ℕ → List ℕ → Option ℕ
unknown_of count list = find (λ a. not (nat_lt a count)) list

-- each number of the list is one of the task's actions
abbrev pub AreKnown : CoreView → List ℕ → Type 0
AreKnown core list = unknown_of (length core.task.actions) list ≡ None

-- the window stands in the core's tree
abbrev pub IsAt : CoreView → Window → Type 0
IsAt core window = Stands core.tree window found.At

-- what the carried kids cost, and what the list costs
abbrev pub old_cost : CoreView → Window → ℕ
old_cost core window = cost_of core.task (joined (map listed_of window.kids))

abbrev pub new_cost : CoreView → List ℕ → ℕ
new_cost core list = cost_of core.task list

abbrev pub IsCheaper : CoreView → Window → List ℕ → Type 0
IsCheaper core window list = new_cost core list < old_cost core window

-- the core's tree, with the list in the place of the carried kids
abbrev pub merged_in : CoreView → Window → List ℕ → Node
merged_in core window list = merged core.tree window list core.next

abbrev pub IsShort : Node → Type 0
IsShort tree = steps_of tree ≤ 4_096

-- no refusal of a replacement has its condition
pub record MayReplace (core : CoreView) (window : Window) (list : List ℕ) : Type 0 where
  pub is_open : IsOpen core
  pub known : AreKnown core list
  pub stands : IsAt core window
  pub cheaper : IsCheaper core window list
  pub short : IsShort (merged_in core window list)
  pub sound : IsSound core.task (merged_in core window list)

-- a replacement is refused where this refusal's condition holds, which stands last, and none before it; want of memory is free
abbrev pub RefusesReplace : CoreView → Window → List ℕ → Refusal → Type 0
RefusesReplace core window list (Closed replaced entries) = IsClosed core replaced entries
RefusesReplace core window list (NoAction number) = IsOpen core × (unknown_of (length core.task.actions) list ≡ Some number)
RefusesReplace core window list Gone = IsOpen core × AreKnown core list × Stands core.tree window found.Gone
RefusesReplace core window list Split = IsOpen core × AreKnown core list × Stands core.tree window found.Split
RefusesReplace core window list (NotCheaper old new) =
    IsOpen core × AreKnown core list × IsAt core window × (old ≡ old_cost core window) × (new ≡ new_cost core list) × (old ≤ new)
RefusesReplace core window list (TooLong steps) =
    IsOpen core × AreKnown core list × IsAt core window × IsCheaper core window list × (steps ≡ steps_of (merged_in core window list)) × (4_096 < steps)
RefusesReplace core window list (Unlinked fault) =
    IsOpen core × AreKnown core list × IsAt core window × IsCheaper core window list × IsShort (merged_in core window list) × (first_fault core.task (merged_in core window list) ≡ Some fault)
RefusesReplace core window list NoMemory = Unit {0}
RefusesReplace core window list other = ⊥

-- the block is there, and the ids of both sides are kids of it
abbrev pub HasSides : CoreView → ℕ → List ℕ → List ℕ → Type 0
HasSides core block left right = has_sides core.tree block left right ≡ true

-- the two sides can be unordered
abbrev pub AreSides : CoreView → ℕ → List ℕ → List ℕ → Type 0
AreSides core block left right = are_sides core.tree block left right core.next ≡ true

-- the core's tree, with the two sides grouped and unordered
abbrev pub tightened_in : CoreView → ℕ → List ℕ → List ℕ → Node
tightened_in core block left right = tightened core.tree block left right core.next

abbrev pub IsShallow : Node → Type 0
IsShallow tree = depth_of tree ≤ 64

-- the tree has fewer ordered pairs of steps than the core's
abbrev pub IsGain : CoreView → Node → Type 0
IsGain core tree = pairs_of tree < pairs_of core.tree

-- no refusal of a tightening has its condition
pub record MayTighten (core : CoreView) (block : ℕ) (left right : List ℕ) : Type 0 where
  pub is_open : IsOpen core
  pub there : HasSides core block left right
  pub sides : AreSides core block left right
  pub shallow : IsShallow (tightened_in core block left right)
  pub gain : IsGain core (tightened_in core block left right)
  pub sound : IsSound core.task (tightened_in core block left right)

-- a tightening is refused where this refusal's condition holds, which stands last, and none before it; want of memory is free
abbrev pub RefusesTighten : CoreView → ℕ → List ℕ → List ℕ → Refusal → Type 0
RefusesTighten core block left right (Closed replaced entries) = IsClosed core replaced entries
RefusesTighten core block left right Gone = IsOpen core × (has_sides core.tree block left right ≡ false)
RefusesTighten core block left right Between = IsOpen core × HasSides core block left right × (are_sides core.tree block left right core.next ≡ false)
RefusesTighten core block left right (TooDeep depth) =
    IsOpen core × HasSides core block left right × AreSides core block left right × (depth ≡ depth_of (tightened_in core block left right)) × (64 < depth)
RefusesTighten core block left right (NoGain old new) =
    IsOpen core × HasSides core block left right × AreSides core block left right × IsShallow (tightened_in core block left right)
    × (old ≡ pairs_of core.tree) × (new ≡ pairs_of (tightened_in core block left right)) × (old ≤ new)
RefusesTighten core block left right (Unlinked fault) =
    IsOpen core × HasSides core block left right × AreSides core block left right × IsShallow (tightened_in core block left right)
    × IsGain core (tightened_in core block left right) × (first_fault core.task (tightened_in core block left right) ≡ Some fault)
RefusesTighten core block left right NoMemory = Unit {0}
RefusesTighten core block left right other = ⊥

-- a replacement came since the last rebuild or the start
abbrev pub IsDue : CoreView → Type 0
IsDue core = is_due core.history ≡ true

-- the pair that tells why the list of pairs is no order of the tree's steps
abbrev pub bad_pair : CoreView → List (ℕ × ℕ) → Option (ℕ × ℕ)
bad_pair core order = order_misfit (steps_of core.tree) order

abbrev pub IsOrderly : CoreView → List (ℕ × ℕ) → Type 0
IsOrderly core order = bad_pair core order ≡ None

-- the core's steps in this order
abbrev pub rebuilt_in : CoreView → List (ℕ × ℕ) → Node
rebuilt_in core order = rebuilt core.tree order

-- no refusal of a rebuild has its condition
pub record MayRebuild (core : CoreView) (order : List (ℕ × ℕ)) : Type 0 where
  pub is_open : IsOpen core
  pub due : IsDue core
  pub orderly : IsOrderly core order
  pub sound : IsSound core.task (rebuilt_in core order)

-- a rebuild is refused where this refusal's condition holds, which stands last, and none before it; want of memory is free
abbrev pub RefusesRebuild : CoreView → List (ℕ × ℕ) → Refusal → Type 0
RefusesRebuild core order (Closed replaced entries) = IsClosed core replaced entries
RefusesRebuild core order Idle = IsOpen core × (is_due core.history ≡ false)
RefusesRebuild core order (BadOrder i j) = IsOpen core × IsDue core × (bad_pair core order ≡ Some (i, j))
RefusesRebuild core order (Unlinked fault) = IsOpen core × IsDue core × IsOrderly core order × (first_fault core.task (rebuilt_in core order) ≡ Some fault)
RefusesRebuild core order NoMemory = Unit {0}
RefusesRebuild core order other = ⊥

-- no refusal of the offer's kind has its condition
abbrev pub IsAcceptable : CoreView → Offer → Type 0
IsAcceptable core (Replace window list) = MayReplace core window list
IsAcceptable core (Tighten block left right) = MayTighten core block left right
IsAcceptable core (Rebuild order) = MayRebuild core order

abbrev pub Refuses : CoreView → Offer → Refusal → Type 0
Refuses core (Replace window list) why = RefusesReplace core window list why
Refuses core (Tighten block left right) why = RefusesTighten core block left right why
Refuses core (Rebuild order) why = RefusesRebuild core order why

-- the reply to an offer; where it is accepted, its place is the length of the history after it
abbrev pub Replies : CoreView → Offer → Result ℕ Refusal → Type 0
Replies core offer (Ok place) = IsAcceptable core offer × (place ≡ length core.history + 1)
Replies core offer (Err why) = Refuses core offer why

-- the fact that a refusal tells, if it tells one, is one of so many
abbrev pub TellsFact : ℕ → Refusal → Type 0
TellsFact facts (Unlinked fault) = fact_of fault < facts
TellsFact facts other = Unit {0}

-- what is tested before a tree is merged
pub record IsWorthy (core : CoreView) (window : Window) (list : List ℕ) : Type 0 where
  pub is_open : IsOpen core
  pub known : AreKnown core list
  pub stands : IsAt core window
  pub cheaper : IsCheaper core window list
  pub short : IsShort (merged_in core window list)

abbrev pub TestsReplace : {A : Type 0} → CoreView → Window → List ℕ → Result A Refusal → Type 0
TestsReplace core window list (Ok x) = IsWorthy core window list
TestsReplace core window list (Err why) = RefusesReplace core window list why

-- a tightening whose sides can be unordered, and the tree that it makes
pub record IsMade (core : CoreView) (block : ℕ) (left right : List ℕ) (tree : Node) : Type 0 where
  pub is_open : IsOpen core
  pub there : HasSides core block left right
  pub sides : AreSides core block left right
  pub tree_is : tree ≡ tightened_in core block left right

-- that tree, or why there is none
abbrev pub Makes : CoreView → ℕ → List ℕ → List ℕ → Result Node Refusal → Type 0
Makes core block left right (Ok tree) = IsMade core block left right tree
Makes core block left right (Err why) = RefusesTighten core block left right why

-- the tree is neither too deep nor without gain, or which of the two
abbrev pub TestsTree : {A : Type 0} → CoreView → Node → Result A Refusal → Type 0
TestsTree core tree (Ok x) = IsShallow tree × IsGain core tree
TestsTree core tree (Err (TooDeep depth)) = (depth ≡ depth_of tree) × (64 < depth)
TestsTree core tree (Err (NoGain old new)) = IsShallow tree × (old ≡ pairs_of core.tree) × (new ≡ pairs_of tree) × (old ≤ new)
TestsTree core tree (Err other) = ⊥

-- what is tested before a tree is rebuilt
pub record IsInOrder (core : CoreView) (order : List (ℕ × ℕ)) : Type 0 where
  pub is_open : IsOpen core
  pub due : IsDue core
  pub orderly : IsOrderly core order

abbrev pub TestsRebuild : {A : Type 0} → CoreView → List (ℕ × ℕ) → Result A Refusal → Type 0
TestsRebuild core order (Ok x) = IsInOrder core order
TestsRebuild core order (Err why) = RefusesRebuild core order why

-- the tree of an offer that may be accepted, or why it is refused
abbrev pub Judges : CoreView → Offer → Result Node Refusal → Type 0
Judges core offer (Ok tree) = IsAcceptable core offer × (tree ≡ tree_after offer (state_of core))
Judges core offer (Err why) = Refuses core offer why

-- a window can be merged with a list
pub record CanMerge (state : State) (window : Window) (list : List ℕ) : Type 0 where
  pub stands : Stands state.tree window found.At
  pub fresh : greatest (ids_of state.tree) < state.next
  pub small : state.next < 2 ^ 63
  pub few : nodes_of state.tree + length list < 2 ^ 32

-- two sides can be tightened
pub record CanUnorderSides (state : State) (block : ℕ) (left right : List ℕ) : Type 0 where
  pub can : CanTighten state.tree block left right state.next
  pub fresh : greatest (ids_of state.tree) < state.next
  pub small : state.next < 2 ^ 63

-- an offer can be applied to a state
abbrev pub IsApplicable : Offer → State → Type 0
IsApplicable (Replace window list) state = CanMerge state window list
IsApplicable (Tighten block left right) state = CanUnorderSides state block left right
IsApplicable (Rebuild order) state = order_misfit (steps_of state.tree) order ≡ None

-- a list that is lent has fewer than 2^32 items
abbrev pub IsLent : Offer → Type 0
IsLent (Replace window list) = length list < 2 ^ 32
IsLent (Tighten block left right) = (length left < 2 ^ 32) × (length right < 2 ^ 32)
IsLent (Rebuild order) = length order < 2 ^ 32
