-- What a task is seen as, and the conditions that it meets.
use Rattle.std.specs.Prelude.{◌≡◌, ℕ, ◌<◌, ◌≤◌, Bool, true, not, List, [], ◌∷◌, length}
use Rattle.std.specs.List.{list_all}
use Rattle.bd_base.specs.Facts.{IsRising, has}
use Rattle.bd_task.specs.declared.ground.Action.{Action}

pub record TaskView : Type 0 where
  pub facts : List (List ℕ)
  pub actions : List Action
  pub init : List ℕ
  pub goal : List ℕ

-- each of the numbers is below n
abbrev pub AreBelow : ℕ → List ℕ → Type 0
AreBelow n [] = Unit {0}
AreBelow n (x ∷ xs) = (x < n) × AreBelow n xs

-- whether no fact is in both sets
abbrev pub are_apart : List ℕ → List ℕ → Bool
are_apart xs ys = list_all (λ x. not (has ys x)) xs

-- an action over n facts
pub record IsAction (n : ℕ) (a : Action) : Type 0 where
  pub cheap : a.cost ≤ 1_000_000_000
  pub pre : AreBelow n a.pre
  pub add : AreBelow n a.add
  pub del : AreBelow n a.del
  pub apart : are_apart a.add a.del ≡ true

abbrev pub AreActions : ℕ → List Action → Type 0
AreActions n [] = Unit {0}
AreActions n (a ∷ rest) = IsAction n a × AreActions n rest

-- the conditions of a task
pub record IsTask (t : TaskView) : Type 0 where
  pub few_facts : length t.facts ≤ 524_288
  pub few_actions : length t.actions ≤ 1_000_000
  pub actions : AreActions (length t.facts) t.actions
  pub init : AreBelow (length t.facts) t.init
  pub goal : AreBelow (length t.facts) t.goal

-- the sets of an action rise
pub record HasRisingSets (a : Action) : Type 0 where
  pub pre : IsRising a.pre
  pub add : IsRising a.add
  pub del : IsRising a.del
