-- Entries that are closed, in the order in which they were closed, and entries that are open.
use Rattle.std.specs.Prelude.{◌≡◌, ℕ, ◌+◌, ◌<◌, ◌≤◌, ◌⊎◌, List, [], ◌∷◌, map, Option, Some, None, slice_get}
use Rattle.bd_task.specs.TaskView.{TaskView}
use Rattle.bd_task.specs.Run.{step_by}
use Rattle.bd_task.specs.Valid.{cost_by}
use Rattle.bd_states.specs.declared.entry.Entry.{Entry}
use Rattle.bd_states.specs.declared.entry.Origin.{Origin}

pub data In : Entry → List Entry → Type 0 where
  here : {e : Entry} {rest : List Entry} → In e (e ∷ rest)
  there : {e d : Entry} {rest : List Entry} → In e rest → In e (d ∷ rest)

abbrev pub states_of : List Entry → List (List ℕ)
states_of entries = map (λ (e : Entry). e.state) entries

-- the state of an entry
abbrev pub HasState : List ℕ → List Entry → Type 0
HasState s [] = ⊥
HasState s (e ∷ rest) = (e.state ≡ s) ⊎ HasState s rest

-- the entry is the start, or one step behind one of the first n closed entries
abbrev pub IsFrom : TaskView → List Entry → ℕ → Option Origin → List ℕ → ℕ → Type 0
IsFrom task closed n None state cost = (state ≡ task.init) × (cost ≡ 0)
IsFrom task closed n (Some o) state cost =
    (p : Entry) × (o.place < n) × (slice_get closed o.place ≡ Some p) × (step_by (slice_get task.actions o.action) p.state ≡ Some state)
    × (cost ≡ p.cost + cost_by (slice_get task.actions o.action))

-- an entry, closed or open, has the state at no higher cost
pub record IsKnown (closed opened : List Entry) (s : List ℕ) (cost : ℕ) : Type 0 where
  pub entry : Entry
  pub is_in : In entry closed ⊎ In entry opened
  pub state : entry.state ≡ s
  pub cheap : entry.cost ≤ cost
