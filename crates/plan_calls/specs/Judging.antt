-- What a call comes to by the schemas: an action of the task, an instance that lacks its cost, or neither.
use Rattle.std.specs.Prelude.{◌≡◌, ℕ, true, false, Bool, cond, List, [], ◌∷◌, find, Option, Some, None}
use Rattle.std.specs.Str.{bytes_eq}
use Rattle.pddl_types.specs.declared.domains.Thing.{Thing}
use Rattle.pddl_types.specs.declared.domains.Schema.{Schema}
use Rattle.pddl_types.specs.declared.domains.Domain.{Domain}
use Rattle.pddl_types.specs.declared.problems.Problem.{Problem}
use Rattle.pddl_types.specs.declared.calls.Call.{Call}
use Rattle.bd_ground.specs.Instances.{things_of, is_instance, cost_of}
use Rattle.plan_calls.specs.declared.judging.Judged.{Judged}
use Rattle.plan_calls.specs.declared.judging.Judged.TheVariants as verdict
use Rattle.plan_calls.specs.Places.{place_by, behind}

abbrev pub schema_named : List Schema → List ℕ → Option Schema
schema_named schemas name = find (λ s. bytes_eq s.name name) schemas

abbrev pub thing_named : List Thing → List ℕ → Option ℕ
thing_named things word = place_by (λ t. bytes_eq t.name word) things

abbrev pub with_number : Option ℕ → Option (List ℕ) → Option (List ℕ)
with_number None rest = None
with_number (Some o) rest = behind (o ∷ []) rest

-- the numbers of the constants and objects with these names, where each is one
abbrev pub things_named : List Thing → List (List ℕ) → Option (List ℕ)
things_named things [] = Some []
things_named things (w ∷ ws) = with_number (thing_named things w) (things_named things ws)

abbrev pub judged_cost : Option ℕ → Judged
judged_cost None = verdict.NoCost
judged_cost (Some c) = verdict.Instance

abbrev pub judged_at : Domain → Problem → Schema → List ℕ → Judged
judged_at d p s args = cond (is_instance d p s args) (judged_cost (cost_of p s args)) verdict.NoAction

abbrev pub judged_by : Domain → Problem → Option Schema → Option (List ℕ) → Judged
judged_by d p None args = verdict.NoAction
judged_by d p (Some s) None = verdict.NoAction
judged_by d p (Some s) (Some args) = judged_at d p s args

-- the call's schema at the call's objects
abbrev pub judged : Domain → Problem → Call → Judged
judged d p call = judged_by d p (schema_named d.schemas call.name) (things_named (things_of d p) call.args)

-- the numbers stand in a list, unless a name is none
abbrev pub Fills : Option (List ℕ) → Bool → List ℕ → Type 0
Fills None filled xs = filled ≡ false
Fills (Some args) filled xs = (filled ≡ true) × (xs ≡ args)
