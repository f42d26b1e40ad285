-- What three texts lead to: a domain, a problem for it and a plan, each judged before the next one is read.
use Rattle.std.specs.Prelude.{◌≡◌, ◌⊎◌, ℕ, ◌<◌, nat_lt, cond, All, List, [], ◌∷◌, length, Option, Some, None, Result, Ok, Err}
use Rattle.bd_base.specs.Shelf.{Told}
use Rattle.bd_base.specs.declared.text_err.Limit.{Limit}
use Rattle.bd_base.specs.declared.text_err.Limit.TheVariants as limits
use Rattle.bd_task.specs.TaskView.{TaskView}
use Rattle.bd_task.specs.Valid.{IsValid, Break, step_lacks, goal_lacks, first_break, cost_of}
use Rattle.seq_check.specs.declared.judging.Broken.{Broken}
use Rattle.seq_check.specs.declared.judging.Broken.TheVariants as broken
use Rattle.pddl_lex.specs.declared.sexp.Sexp.{Sexp}
use Rattle.pddl_lex.specs.declared.errors.LexErr.{LexErr}
use Rattle.pddl_lex.specs.Reading.{tree_in}
use Rattle.pddl_types.specs.declared.domains.Domain.{Domain}
use Rattle.pddl_types.specs.declared.problems.Problem.{Problem}
use Rattle.pddl_types.specs.declared.calls.Call.{Call}
use Rattle.pddl_form.specs.Fault.{Fault, ◌>>=◌}
use Rattle.pddl_domain.specs.Whole.{domain_at, over_of as domain_over}
use Rattle.pddl_problem.specs.Whole.{problem_at, over_of as problem_over}
use Rattle.plan_text.specs.Calls.{fault_of, plan_at, over_of as plan_over}
use Rattle.bd_ground.specs.Instances.{task_instances}
use Rattle.bd_ground.specs.Task.{fact_atoms, ground_task}
use Rattle.bd_ground.specs.Calls.{IsLiterallyValid}
use Rattle.plan_calls.specs.Finding.{found}
use Rattle.plan_calls.specs.Judging.{judged}
use Rattle.plan_calls.specs.Listing.{cause_of}
use Rattle.task_inputs.specs.declared.answers.Part.{Part}
use Rattle.task_inputs.specs.declared.answers.Part.TheVariants as part
use Rattle.task_inputs.specs.declared.answers.Inputs.{Inputs}
use Rattle.task_inputs.specs.declared.answers.Inputs.TheVariants as inputs
use Rattle.task_inputs.specs.Reads.{Counts, IsUnread, IsLong, WasRead}

-- the one list of words of a text, or the first fault
abbrev pub treed : Result Sexp LexErr → Result Sexp Fault
treed (Ok tree) = Ok tree
treed (Err e) = Err (fault_of e)

-- the domain that a text gives, or its first fault
abbrev pub domain_in : List ℕ → Result Domain Fault
domain_in text = treed (tree_in text) >>= λ tree. domain_at tree

-- the problem for the domain that a text gives, or its first fault
abbrev pub problem_in : Domain → List ℕ → Result Problem Fault
problem_in d text = treed (tree_in text) >>= λ tree. problem_at d tree

-- the action that a call names, or why it is none
abbrev pub action_in : Domain → Problem → Call → Option ℕ → Result ℕ Fault
action_in d p call None = Err (call.place, cause_of (judged d p call))
action_in d p call (Some a) = Ok a

-- the actions that calls name in the ground task, or the first call that is none
abbrev pub list_in : Domain → Problem → List Call → Result (List ℕ) Fault
list_in d p [] = Ok []
list_in d p (call ∷ calls) = action_in d p call (found (ground_task d p).actions call) >>= λ a. list_in d p calls >>= λ list. Ok (a ∷ list)

-- the first count of the ground task that passes its limit: actions are judged before facts
abbrev pub ground_over : Domain → Problem → Option (Limit × ℕ)
ground_over d p =
    cond (nat_lt 1_000_000 (length (task_instances d p))) (Some (limits.Actions, 1_000_001))
    (cond (nat_lt 262_144 (length (fact_atoms d p))) (Some (limits.Facts, 262_145)) None)

-- what is judged ends the reading, or gives what the next is judged with
pub data Step (A : Type 0) : Type 0 where
  ends : Inputs → Step A
  gives : A → Step A

abbrev pub follows : {A : Type 0} → Step A → (A → Inputs) → Inputs
follows (ends o) next = o
follows (gives x) next = next x

-- what is read stands unless it passes a limit
abbrev pub within : {A : Type 0} → Option (Limit × ℕ) → A → Step A
within None x = gives x
within (Some o) x = ends (inputs.Over o.0 o.1)

-- what a text gives, or its first fault
abbrev pub read_step : {A : Type 0} → Part → (A → Option (Limit × ℕ)) → Result A Fault → Step A
read_step part over (Err f) = ends (inputs.Refused part f.0 f.1)
read_step part over (Ok x) = within (over x) x

abbrev pub no_limit : {A : Type 0} → A → Option (Limit × ℕ)
no_limit x = None

abbrev pub domain_step : List ℕ → Step Domain
domain_step text = read_step part.Domain domain_over (domain_in text)

abbrev pub problem_step : Domain → List ℕ → Step Problem
problem_step d text = read_step part.Problem (problem_over d) (problem_in d text)

abbrev pub plan_step : Domain → Problem → List ℕ → Step (List Call)
plan_step d p text = read_step part.Plan plan_over (plan_at d p text)

abbrev pub broken_of : Break → Broken
broken_of (step_lacks place f) = broken.Step place f
broken_of (goal_lacks f) = broken.Goal f

-- a plan of a task is valid, or breaks
abbrev pub judged_plan : TaskView → List ℕ → Option Break → Inputs
judged_plan task plan None = inputs.Ready task plan (cost_of task plan)
judged_plan task plan (Some b) = inputs.Broken task (broken_of b)

-- what a domain, a problem and a plan's calls lead to: the ground task is within its limits, each call is an action, and the plan valid
abbrev pub calls_end : Domain → Problem → List Call → Inputs
calls_end d p calls = follows (within (ground_over d p) (ground_task d p)) (λ task.
    follows (read_step part.Plan no_limit (list_in d p calls)) (λ plan.
    judged_plan task plan (first_break task plan)))

-- What the texts of a domain, a problem and a plan lead to.
abbrev pub outcome : List ℕ → List ℕ → List ℕ → Inputs
outcome domain problem plan = follows (domain_step domain) (λ d. follows (problem_step d problem) (λ p. follows (plan_step d p plan) (λ calls. calls_end d p calls)))

-- a text of the command couldn't be read, or was too long
abbrev pub HasNoText : Part → Told → Counts → Inputs → Type 0
HasNoText part told c (inputs.Unread which missing) = (which ≡ part) × IsUnread told c missing
HasNoText part told c (inputs.Over limits.Text count) = (count ≡ 16_777_217) × IsLong told c
HasNoText part told c other = ⊥

abbrev pub FollowsBy : {A : Type 0} → Step A → (A → Inputs → Type 0) → Inputs → Type 0
FollowsBy (ends o) next result = result ≡ o
FollowsBy (gives x) next result = next x result

-- a text is read, and judged by a step, and then comes what follows
abbrev pub After : {A : Type 0} → Part → Told → Counts → (List ℕ → Step A) → (A → Inputs → Type 0) → Inputs → Type 0
After part told c step next result = HasNoText part told c result ⊎ WasRead told (λ t. FollowsBy (step t) next result)

abbrev pub AfterPlan : Domain → Problem → Told → Counts → Inputs → Type 0
AfterPlan d p told c result = After part.Plan told c (λ t. plan_step d p t) (λ calls r. r ≡ calls_end d p calls) result

abbrev pub AfterProblem : Domain → Told → Told → Counts → Inputs → Type 0
AfterProblem d problem plan c result = After part.Problem problem c (λ t. problem_step d t) (λ p r. AfterPlan d p plan c r) result

-- What the texts that a shelf tells lead to: each is read and judged before the next one is read.
abbrev pub LeadsTo : Told → Told → Told → Counts → Inputs → Type 0
LeadsTo domain problem plan c result = After part.Domain domain c (λ t. domain_step t) (λ d r. AfterProblem d problem plan c r) result

-- want of memory is free
abbrev pub Unless : Inputs → Type 0 → Type 0
Unless inputs.NoMemory P = Unit {0}
Unless other P = P

-- the facts of a break are the task's, and so are the actions of a plan
abbrev pub IsInTask : Inputs → Type 0
IsInTask (inputs.Ready task plan cost) = All (λ a. a < length task.actions) plan
IsInTask (inputs.Broken task (broken.Step at f)) = f < length task.facts
IsInTask (inputs.Broken task (broken.Goal f)) = f < length task.facts
IsInTask (inputs.Broken task broken.NoMemory) = ⊥
IsInTask other = Unit {0}

-- The texts give a domain, a problem for it and the calls of a plan, all within their limits; each call is an action of the ground
-- task, and the plan is valid: its calls run by the schemas from the init list to the goal.
pub record IsValidPlan (domain problem plan : List ℕ) (task : TaskView) (list : List ℕ) : Type 0 where
  pub d : Domain
  pub p : Problem
  pub calls : List Call
  pub is_domain : domain_in domain ≡ Ok d
  pub few_parameters : domain_over d ≡ None
  pub is_problem : problem_in d problem ≡ Ok p
  pub few_objects : problem_over d p ≡ None
  pub is_plan : plan_at d p plan ≡ Ok calls
  pub few_steps : plan_over calls ≡ None
  pub few_ground : ground_over d p ≡ None
  pub grounded : task ≡ ground_task d p
  pub listed : list_in d p calls ≡ Ok list
  pub valid : IsValid task list
  pub runs : IsLiterallyValid d p list
