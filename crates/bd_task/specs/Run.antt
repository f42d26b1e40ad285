-- How a list of actions runs, from sets of facts to sets of facts.
use Rattle.std.specs.Prelude.{◌≡◌, ℕ, Bool, true, false, cond, not, List, [], ◌∷◌, Option, Some, None, find, slice_get}
use Rattle.bd_base.specs.Facts.{has, is_subset, minus, plus}
use Rattle.bd_task.specs.declared.ground.Action.{Action}
use Rattle.bd_task.specs.TaskView.{TaskView}

-- the state after an action: the add wins
abbrev pub after : Action → List ℕ → List ℕ
after a s = plus (minus s a.del) a.add

-- the first fact of a list that a state lacks
abbrev pub lacking : List ℕ → List ℕ → Option ℕ
lacking facts s = find (λ f. not (has s f)) facts

-- the state after an action, or none where it isn't there or a precondition lacks
abbrev pub step_by : Option Action → List ℕ → Option (List ℕ)
step_by None s = None
step_by (Some a) s = cond (is_subset a.pre s) (Some (after a s)) None

abbrev pub run_on : Option (List ℕ) → (List ℕ → Option (List ℕ)) → Option (List ℕ)
run_on None f = None
run_on (Some s) f = f s

-- the run of a list from a state: the last state, or none where an action can't run
abbrev pub run : TaskView → List ℕ → List ℕ → Option (List ℕ)
run task s [] = Some s
run task s (a ∷ rest) = run_on (step_by (slice_get task.actions a) s) (λ t. run task t rest)

-- what one step does: it runs, or leaves the state
abbrev pub Steps : Option (List ℕ) → Bool → List ℕ → List ℕ → Type 0
Steps None ran s t = (ran ≡ false) × (t ≡ s)
Steps (Some next) ran s t = (ran ≡ true) × (t ≡ next)
