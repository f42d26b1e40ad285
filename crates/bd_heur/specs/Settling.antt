-- Labels on the way down to the values of a state: each is at least the value, and each action is met unless a fact that it
-- needs waits with its label.
use Rattle.std.specs.Prelude.{◌≡◌, ℕ, ◌+◌, ◌*◌, ◌^◌, ◌<◌, ◌≤◌, true, cond, ◌⊎◌, List, [], ◌∷◌, length, set, Option, Some, None, slice_get}
use Rattle.std.specs.List.Sorted.{IsPermutation}
use Rattle.bd_base.specs.Facts.{has}
use Rattle.bd_task.specs.TaskView.{TaskView}
use Rattle.bd_task.specs.declared.ground.Action.{Action}
use Rattle.bd_heur.specs.declared.join.Join.{Join}
use Rattle.bd_heur.specs.Relaxed.{value_by, relaxed_value, IsWithin}
use Rattle.bd_heur.specs.Tables.{value_in}
use Rattle.bd_heur.specs.declared.queue.Waiting.{Waiting}

pub data In : Waiting → List Waiting → Type 0 where
  here : {w : Waiting} {rest : List Waiting} → In w (w ∷ rest)
  there : {w d : Waiting} {rest : List Waiting} → In w rest → In w (d ∷ rest)

-- the fact waits with its label
abbrev pub IsAwaited : List (Option ℕ) → List Waiting → ℕ → Type 0
IsAwaited table queue p = (value : ℕ) × (value_in table p ≡ Some value) × In (record { value = value; fact = p }) queue

-- each fact that the action adds is at most what it gives, or a fact that it needs waits
abbrev pub IsMet : Join → List (Option ℕ) → List Waiting → Action → Type 0
IsMet join table queue a =
    ((p : ℕ) → has a.add p ≡ true → IsWithin 0 (value_in table p) (value_by join (value_in table) a)) ⊎ ((q : ℕ) × (has a.pre q ≡ true) × IsAwaited table queue q)

-- the labels are on the way to the values; the actions of the list may be unmet
pub record IsSettling (join : Join) (task : TaskView) (s : List ℕ) (table : List (Option ℕ)) (queue : List Waiting) (rest : List ℕ) : Type 0 where
  pub len : length table ≡ length task.facts
  pub above : (p : ℕ) → IsWithin 0 (relaxed_value join task s (length task.facts) p) (value_in table p)
  pub start : (p : ℕ) → p < length task.facts → has s p ≡ true → IsWithin 0 (value_in table p) (Some 0)
  pub met : (x : ℕ) (a : Action) → slice_get task.actions x ≡ Some a → (has rest x ≡ true) ⊎ IsMet join table queue a

-- a number for each label: none is above each
abbrev pub rank : Option ℕ → ℕ
rank None = 2 ^ 64
rank (Some a) = a

abbrev pub ranks : List (Option ℕ) → ℕ
ranks [] = 0
ranks (x ∷ xs) = rank x + ranks xs

-- what falls with each step
abbrev pub weight : List (Option ℕ) → List Waiting → ℕ
weight table queue = 2 * ranks table + length queue

-- a fact is lowered to the value and waits with it, or it is no higher already
abbrev pub IsPut : ℕ → ℕ → List (Option ℕ) → List Waiting → List (Option ℕ) → List Waiting → Type 0
IsPut value p table queue new more =
    ((new ≡ table) × (more ≡ queue) × (p < length table → IsWithin 0 (value_in table p) (Some value)))
    ⊎ ((p < length table) × (new ≡ set table p (Some value)) × IsPermutation (record { value = value; fact = p } ∷ queue) more × (value < rank (value_in table p)))

-- facts are lowered to the value where they are above it, but for the rest
pub record IsLowered (value : ℕ) (rest facts : List ℕ) (table : List (Option ℕ)) (queue : List Waiting) (new : List (Option ℕ)) (more : List Waiting) : Type 0 where
  pub len : length new ≡ length table
  pub within : (r : ℕ) → has rest r ≡ true → has facts r ≡ true
  pub kept : (w : Waiting) → In w queue → In w more
  pub each : (r : ℕ) → (value_in new r ≡ value_in table r) ⊎ ((has facts r ≡ true) × (value_in new r ≡ Some value) × In (record { value = value; fact = r }) more)
  pub less : (r : ℕ) → IsWithin 0 (value_in new r) (value_in table r)
  pub met : (r : ℕ) → r < length table → has facts r ≡ true → (has rest r ≡ true) ⊎ IsWithin 0 (value_in new r) (Some value)
  pub light : weight new more ≤ weight table queue

abbrev pub IsLoweredTo : Option ℕ → List ℕ → List (Option ℕ) → List Waiting → List (Option ℕ) → List Waiting → Type 0
IsLoweredTo None facts table queue new more = (new ≡ table) × (more ≡ queue)
IsLoweredTo (Some value) facts table queue new more = IsLowered value [] facts table queue new more

-- an action is met: what it adds is lowered
abbrev pub IsRelaxed : Join → Option Action → List (Option ℕ) → List Waiting → List (Option ℕ) → List Waiting → Type 0
IsRelaxed join None table queue new more = (new ≡ table) × (more ≡ queue)
IsRelaxed join (Some a) table queue new more = IsLoweredTo (value_by join (value_in table) a) a.add table queue new more

-- the facts below n have their labels at the start, and those of the state wait
pub record IsStart (s : List ℕ) (n : ℕ) (table : List (Option ℕ)) (queue : List Waiting) : Type 0 where
  pub len : length table ≡ n
  pub values : (p : ℕ) → p < n → value_in table p ≡ cond (has s p) (Some 0) None
  pub waits : (p : ℕ) → p < n → has s p ≡ true → In (record { value = 0; fact = p }) queue
