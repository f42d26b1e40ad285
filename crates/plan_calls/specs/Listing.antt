-- The list of actions that the calls of a plan are, or the first call that is none.
use Rattle.std.specs.Prelude.{◌≡◌, ℕ, List, ◌∷◌, ◌++◌, map, Some, None, Result, Ok, Err}
use Rattle.std.specs.List.{AllByRecursion}
use Rattle.bd_base.specs.declared.text_err.Cause.{Cause}
use Rattle.bd_base.specs.declared.text_err.Cause.TheVariants as cause
use Rattle.bd_base.specs.declared.text_err.TextErr.{TextErr}
use Rattle.bd_base.specs.declared.text_err.TextErr.TheVariants as errors
use Rattle.bd_task.specs.declared.ground.Action.{Action}
use Rattle.pddl_types.specs.declared.domains.Domain.{Domain}
use Rattle.pddl_types.specs.declared.problems.Problem.{Problem}
use Rattle.pddl_types.specs.declared.calls.Call.{Call}
use Rattle.plan_calls.specs.declared.judging.Judged.{Judged}
use Rattle.plan_calls.specs.declared.judging.Judged.TheVariants as verdict
use Rattle.plan_calls.specs.Judging.{judged}
use Rattle.plan_calls.specs.Finding.{found}
use Rattle.plan_calls.specs.Agreement.{IsThere}

-- why a call that isn't found is none
abbrev pub cause_of : Judged → Cause
cause_of verdict.NoCost = cause.NoCost
cause_of verdict.NoAction = cause.NoAction
cause_of verdict.Instance = cause.NoAction

-- the first call that is no action, after some that are
pub record IsFirstMissing (d : Domain) (p : Problem) (actions : List Action) (calls : List Call) (place : ℕ) (why : Cause) : Type 0 where
  pub front : List Call
  pub call : Call
  pub rest : List Call
  pub split : calls ≡ front ++ call ∷ rest
  pub there : AllByRecursion (λ c. IsThere (found actions c)) front
  pub missing : found actions call ≡ None
  pub at : place ≡ call.place
  pub told : why ≡ cause_of (judged d p call)

-- each call's action, in order, or the first call that is none
abbrev pub Lists : Domain → Problem → List Action → List Call → Result (List ℕ) TextErr → Type 0
Lists d p actions calls (Ok list) = map (λ c. found actions c) calls ≡ map (λ a. Some a) list
Lists d p actions calls (Err errors.NoMemory) = Unit {0}
Lists d p actions calls (Err (errors.Over limit count)) = ⊥
Lists d p actions calls (Err (errors.At place why)) = IsFirstMissing d p actions calls place why
