-- What ties the actions of a ground task to calls.
use Rattle.std.specs.Prelude.{◌≡◌, ◌↔◌, ℕ, false, List, [], ◌∷◌, map, Option, Some, None}
use Rattle.std.specs.List.{AllByRecursion}
use Rattle.bd_task.specs.declared.ground.Action.{Action}
use Rattle.pddl_types.specs.declared.domains.Domain.{Domain}
use Rattle.pddl_types.specs.declared.problems.Problem.{Problem}
use Rattle.pddl_types.specs.declared.calls.Call.{Call}
use Rattle.pddl_types.specs.Readable.{IsName}
use Rattle.bd_ground.specs.Atoms.{is_among}
use Rattle.bd_ground.specs.Task.{ground_task}
use Rattle.plan_calls.specs.declared.judging.Judged.TheVariants as verdict
use Rattle.plan_calls.specs.Judging.{judged}
use Rattle.plan_calls.specs.Finding.{found}

-- each text differs from all behind it
abbrev pub AreDistinct : List (List ℕ) → Type 0
AreDistinct [] = Unit {0}
AreDistinct (n ∷ names) = (is_among n names ≡ false) × AreDistinct names

-- the call's name and arguments are names, so that they have no spaces
pub record HasNames (call : Call) : Type 0 where
  pub name : IsName call.name
  pub args : AllByRecursion IsName call.args

abbrev pub IsThere : Option ℕ → Type 0
IsThere None = ⊥
IsThere (Some k) = Unit {0}

-- A call is found among the task's actions exactly where it is judged an instance with a cost.
abbrev pub Agrees : Domain → Problem → Call → Type 0
Agrees d p call = IsThere (found (ground_task d p).actions call) ↔ (judged d p call ≡ verdict.Instance)

-- No two actions of the task have one name.
abbrev pub ActionsDiffer : Domain → Problem → Type 0
ActionsDiffer d p = AreDistinct (map (λ (a : Action). a.name) (ground_task d p).actions)
