-- Tables of values.
use Rattle.std.proofs.Common.{◌≡◌, ℕ, ◌<◌, List, [], ◌∷◌, length, Option, Some, refl, sym, ap, ◌∙◌}
use Rattle.bd_task.specs.TaskView.{TaskView, IsTask, AreBelow}
use Rattle.bd_heur.specs.declared.join.Join.{Join}
use Rattle.bd_heur.specs.Relaxed.{joined, value_of_all, relaxed_value, goal_value}
use Rattle.bd_heur.specs.Tables.{value_in, HasRounds}

-- values that agree below n
abbrev pub Agree : ℕ → (ℕ → Option ℕ) → (ℕ → Option ℕ) → Type 0
Agree n v w = (q : ℕ) → q < n → v q ≡ w q

module _ (join : Join) (n : ℕ) (v w : ℕ → Option ℕ) (agree : Agree n v w) where
  pub all_agree : (value : Option ℕ) (ps : List ℕ) → AreBelow n ps → value_of_all join v value ps ≡ value_of_all join w value ps
  all_agree value [] below = refl
  all_agree value (p ∷ ps) below = rw (agree p below.0) (all_agree (joined join value (w p)) ps below.1)

pub goal_from : (join : Join) (task : TaskView) (s : List ℕ) → IsTask task → (table : List (Option ℕ)) → HasRounds join task s (length task.facts) table → value_of_all join (value_in table) (Some 0) task.goal ≡ goal_value join task s
goal_from join task s is table h = all_agree join (length task.facts) (value_in table) (relaxed_value join task s (length task.facts)) h.values (Some 0) task.goal is.goal
