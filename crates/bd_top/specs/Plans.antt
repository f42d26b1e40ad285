-- The plan that words and texts lead to, and the plan of generated texts.
use Rattle.std.specs.Prelude.{◌≡◌, ℕ, List, Some}
use Rattle.bd_base.specs.Shelf.{Told}
use Rattle.bd_task.specs.TaskView.{TaskView}
use Rattle.bd_task.specs.Valid.{cost_of}
use Rattle.bd_gen.specs.Errands.{plan_of, problem_of}
use Rattle.bd_gen.specs.declared.sample.TheConstants.{DOMAIN}
use Rattle.task_inputs.specs.declared.answers.Inputs.{Inputs}
use Rattle.task_inputs.specs.Inputs.{IsValidPlan, outcome}
use Rattle.task_inputs.specs.Reads.{IsToldAs}
use Rattle.bd_top.specs.Words.{texts_named}
use Rattle.command_words.specs.Asked.{Names as TextNames}

-- The words name a domain, a problem and a plan, whose texts, as they were read, give a task and a valid plan for it of this cost.
pub record IsCheckedPlan (words : List (List ℕ)) (tells : List ℕ → Told) (cost : ℕ) : Type 0 where
  pub names : TextNames
  pub named : texts_named words ≡ Some names
  pub domain : List ℕ
  pub problem : List ℕ
  pub plan : List ℕ
  pub domain_told : IsToldAs (tells names.domain) domain
  pub problem_told : IsToldAs (tells names.problem) problem
  pub plan_told : IsToldAs (tells names.plan) plan
  pub task : TaskView
  pub list : List ℕ
  pub valid : IsValidPlan domain problem plan task list
  pub costs : cost ≡ cost_of task list

-- The generated texts of so many errands give a task and a valid plan for it.
abbrev pub IsErrandsPlan : ℕ → TaskView → List ℕ → Type 0
IsErrandsPlan size task list = IsValidPlan DOMAIN.now (problem_of size) (plan_of size) task list

-- What the generated texts of so many errands lead to.
abbrev pub errands_outcome : ℕ → Inputs
errands_outcome size = outcome DOMAIN.now (problem_of size) (plan_of size)
