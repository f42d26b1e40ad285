-- What a core is seen as, what an accepted offer does, and what the history replays to.
use Rattle.std.specs.Prelude.{◌≡◌, ℕ, ◌+◌, Bool, true, false, ◌||◌, nat_le, List, [], ◌∷◌, ◌++◌, length, count_by, Some, Result, Ok, Err}
use Rattle.bd_task.specs.TaskView.{TaskView}
use Rattle.bd_tree.specs.declared.node.Node.{Node}
use Rattle.bd_tree.specs.Tree.{ids_of, greatest}
use Rattle.bd_links.specs.Sound.{IsSound, first_fault}
use Rattle.bd_merge.specs.Merged.{merged}
use Rattle.bd_shape.specs.Tightened.{both_taken, tightened}
use Rattle.plan_core.specs.Rebuilt.{rebuilt}
use Rattle.plan_core.specs.declared.offer.Offer.{Offer}
use Rattle.plan_core.specs.declared.offer.Offer.TheVariants.{Replace, Tighten, Rebuild}
use Rattle.plan_core.specs.declared.judge.BeginErr.{BeginErr}
use Rattle.plan_core.specs.declared.judge.BeginErr.TheVariants.{Unsound, NoMemory}

-- a task, a start tree, the history of accepted offers, the present tree, the next id and the stop number
pub record CoreView : Type 0 where
  pub task : TaskView
  pub start : Node
  pub history : List Offer
  pub tree : Node
  pub next : ℕ
  pub stop : ℕ

-- a tree, and the id that the next new node gets
pub record State : Type 0 where
  pub tree : Node
  pub next : ℕ

abbrev pub opened : Node → State
opened start = record { tree = start; next = greatest (ids_of start) + 1 }

abbrev pub state_of : CoreView → State
state_of core = record { tree = core.tree; next = core.next }

-- the tree after an offer that is accepted: a replacement merges its list, whose steps take the next ids, a tightening
-- groups its two sides and unorders them, and a rebuild leaves the steps alone, with its order
abbrev pub tree_after : Offer → State → Node
tree_after (Replace window actions) state = merged state.tree window actions state.next
tree_after (Tighten block left right) state = tightened state.tree block left right state.next
tree_after (Rebuild order) state = rebuilt state.tree order

-- how many ids it takes
abbrev pub new_ids : Offer → ℕ
new_ids (Replace window actions) = length actions
new_ids (Tighten block left right) = both_taken left right
new_ids (Rebuild order) = 0

-- the state after it
abbrev pub applied : Offer → State → State
applied offer state = record { tree = tree_after offer state; next = state.next + new_ids offer }

-- the state after the entries of a history, each applied to the state before it
abbrev pub replay : State → List Offer → State
replay state [] = state
replay state (offer ∷ rest) = replay (applied offer state) rest

abbrev pub is_replacement : Offer → Bool
is_replacement (Replace window actions) = true
is_replacement (Tighten block left right) = false
is_replacement (Rebuild order) = false

abbrev pub is_tightening : Offer → Bool
is_tightening (Replace window actions) = false
is_tightening (Tighten block left right) = true
is_tightening (Rebuild order) = false

abbrev pub is_rebuild : Offer → Bool
is_rebuild (Replace window actions) = false
is_rebuild (Tighten block left right) = false
is_rebuild (Rebuild order) = true

-- whether no more offers are taken
abbrev pub is_closed : ℕ → List Offer → Bool
is_closed stop history = nat_le stop (count_by is_replacement history) || nat_le 16_777_216 (length history)

-- whether a rebuild is due behind these entries: a replacement makes it due, a tightening leaves it, and a rebuild ends it
abbrev pub due_after : Bool → List Offer → Bool
due_after due [] = due
due_after due (Replace window actions ∷ rest) = due_after true rest
due_after due (Tighten block left right ∷ rest) = due_after due rest
due_after due (Rebuild order ∷ rest) = due_after false rest

-- whether a replacement came since the last rebuild or the start
abbrev pub is_due : List Offer → Bool
is_due history = due_after false history

-- the core that opens on a tree
abbrev pub opening : TaskView → Node → ℕ → CoreView
opening task start stop = record { task = task; start = start; history = []; tree = start; next = greatest (ids_of start) + 1; stop = stop }

-- the core after an offer that is accepted: it stands last in the history
abbrev pub accepted : Offer → CoreView → CoreView
accepted offer core = record {
  task = core.task;
  start = core.start;
  history = core.history ++ offer ∷ [];
  tree = (applied offer (state_of core)).tree;
  next = (applied offer (state_of core)).next;
  stop = core.stop;
}

-- a core begins exactly where the start tree is sound, and else its first fault is told; want of memory is free
abbrev pub Begins : TaskView → Node → ℕ → Result CoreView BeginErr → Type 0
Begins task start stop (Ok core) = (core ≡ opening task start stop) × IsSound task start
Begins task start stop (Err (Unsound fault)) = first_fault task start ≡ Some fault
Begins task start stop (Err NoMemory) = Unit {0}

abbrev pub IsOkOrOutOfMemory : {A : Type 0} → Result A BeginErr → Type 0
IsOkOrOutOfMemory (Ok core) = Unit {0}
IsOkOrOutOfMemory (Err (Unsound fault)) = ⊥
IsOkOrOutOfMemory (Err NoMemory) = Unit {0}
