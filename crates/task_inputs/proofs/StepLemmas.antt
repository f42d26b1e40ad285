-- What the answer of a reader, of grounding and of the validator leads to.
use Rattle.std.proofs.Common.{◌≡◌, ℕ, length, List, Option, Some, None, Result, Ok, Err, refl, sym, ap, ◌∙◌, subst}
use Rattle.std.proofs.lemmas.Bool.{lt-ltb, le-ltb}
use Rattle.bd_base.specs.declared.text_err.Limit.{Limit}
use Rattle.bd_base.specs.declared.text_err.Limit.TheVariants as limits
use Rattle.bd_base.specs.declared.text_err.TextErr.{TextErr}
use Rattle.bd_base.specs.declared.text_err.TextErr.TheVariants as errors
use Rattle.bd_task.specs.TaskView.{TaskView}
use Rattle.bd_task.specs.Valid.{Break, step_lacks, goal_lacks, first_break, cost_of}
use Rattle.seq_check.specs.declared.judging.Broken.TheVariants as broken
use Rattle.seq_check.specs.Answers.{Answers as Judges}
use Rattle.pddl_types.specs.declared.domains.Domain.{Domain}
use Rattle.pddl_types.specs.declared.problems.Problem.{Problem}
use Rattle.pddl_form.specs.Fault.{Fault, Answers}
use Rattle.bd_ground.specs.Instances.{task_instances}
use Rattle.bd_ground.specs.Task.{fact_atoms, ground_task}
use Rattle.bd_ground.specs.Grounding.{IsGround}
use Rattle.task_inputs.specs.declared.answers.Part.{Part}
use Rattle.task_inputs.specs.declared.answers.Inputs.{Inputs}
use Rattle.task_inputs.specs.declared.answers.Inputs.TheVariants as inputs
use Rattle.task_inputs.specs.Inputs.{Step, ends, gives, within, read_step, ground_over, judged_plan, FollowsBy, Unless}
use Rattle.task_inputs.specs.Steps.{GroundsTo, refusal_of}

pub unless_map : {P Q : Type 0} (o : Inputs) → (P → Q) → Unless o P → Unless o Q
unless_map (inputs.Ready task plan cost) f h = f h
unless_map (inputs.Unread part missing) f h = f h
unless_map (inputs.Refused part place cause) f h = f h
unless_map (inputs.Over limit count) f h = f h
unless_map (inputs.Broken task broken) f h = f h
unless_map inputs.NoMemory f h = tt

pub unless_by : {P : Type 0} (o : Inputs) → P → Unless o P
unless_by (inputs.Ready task plan cost) h = h
unless_by (inputs.Unread part missing) h = h
unless_by (inputs.Refused part place cause) h = h
unless_by (inputs.Over limit count) h = h
unless_by (inputs.Broken task broken) h = h
unless_by inputs.NoMemory h = tt

module _ {A : Type 0} (part : Part) (over : A → Option (Limit × ℕ)) (read : Result A Fault) where
  pub ok_step : (x : A) → Answers over (Ok x) read → read_step part over read ≡ gives x
  ok_step x h = ap (λ z. read_step part over z) h.0 ∙ ap (λ z. within z x) h.1

  pub err_step : (e : TextErr) → Answers over (Err e) read → Unless (refusal_of part e) (read_step part over read ≡ ends (refusal_of part e))
  err_step (errors.At place cause) h = ap (λ z. read_step part over z) h
  err_step (errors.Over limit count) h = ap (λ z. read_step part over z) h.1 ∙ ap (λ z. within z h.0) h.2
  err_step errors.NoMemory h = tt

module _ {A : Type 0} (step : Step A) (next : A → Inputs → Type 0) where
  pub goes_on : (x : A) (result : Inputs) → step ≡ gives x → Unless result (next x result) → Unless result (FollowsBy step next result)
  goes_on x result e h = unless_map result (λ k. subst (λ s. FollowsBy s next result) (sym e) k) h

  pub stops : (result : Inputs) → Unless result (step ≡ ends result) → Unless result (FollowsBy step next result)
  stops result h = unless_map result (λ e. subst (λ s. FollowsBy s next result) (sym e) refl) h

module _ (d : Domain) (p : Problem) where
  pub task_step : (task : TaskView) → IsGround d p task → within (ground_over d p) (ground_task d p) ≡ gives task
  task_step task h =
      rw (le-ltb 1_000_000 (length (task_instances d p)) h.few_actions, le-ltb 262_144 (length (fact_atoms d p)) h.few_facts) (ap (λ z. gives z) (sym h.task))

  pub limit_step : (part : Part) (e : TextErr) → GroundsTo d p (Err e) → Unless (refusal_of part e) (within (ground_over d p) (ground_task d p) ≡ ends (refusal_of part e))
  limit_step part (errors.Over limits.Actions count) h = rw (lt-ltb 1_000_000 (length (task_instances d p)) h.many) (ap (λ z. ends (inputs.Over limits.Actions z)) (sym h.told))
  limit_step part (errors.Over limits.Facts count) h =
      rw (le-ltb 1_000_000 (length (task_instances d p)) h.few_actions, lt-ltb 262_144 (length (fact_atoms d p)) h.many) (ap (λ z. ends (inputs.Over limits.Facts z)) (sym h.told))
  limit_step part errors.NoMemory h = tt
  limit_step part (errors.At place cause) h = absurd h
  limit_step part (errors.Over other count) h = absurd h

-- the validator's answer
module _ (task : TaskView) (plan : List ℕ) where
  valid_by : (b : Option Break) (cost told : ℕ) → Judges b cost (Ok told) → cost ≡ cost_of task plan → inputs.Ready task plan told ≡ judged_plan task plan b
  valid_by None cost told h e = ap (λ z. inputs.Ready task plan z) (h ∙ e)
  valid_by (Some b) cost told h e = absurd h

  pub valid_step : (told : ℕ) → Judges (first_break task plan) (cost_of task plan) (Ok told) → inputs.Ready task plan told ≡ judged_plan task plan (first_break task plan)
  valid_step told h = valid_by (first_break task plan) (cost_of task plan) told h refl

  step_by : (b : Option Break) (cost at f : ℕ) → Judges b cost (Err (broken.Step at f)) → inputs.Broken task (broken.Step at f) ≡ judged_plan task plan b
  step_by (Some (step_lacks place g)) cost at f h = ap (λ z. inputs.Broken task (broken.Step z f)) h.0 ∙ ap (λ z. inputs.Broken task (broken.Step place z)) h.1
  step_by (Some (goal_lacks g)) cost at f h = absurd h
  step_by None cost at f h = absurd h

  pub broken_step : (at f : ℕ) → Judges (first_break task plan) (cost_of task plan) (Err (broken.Step at f)) → inputs.Broken task (broken.Step at f) ≡ judged_plan task plan (first_break task plan)
  broken_step at f h = step_by (first_break task plan) (cost_of task plan) at f h

  goal_by : (b : Option Break) (cost f : ℕ) → Judges b cost (Err (broken.Goal f)) → inputs.Broken task (broken.Goal f) ≡ judged_plan task plan b
  goal_by (Some (goal_lacks g)) cost f h = ap (λ z. inputs.Broken task (broken.Goal z)) h
  goal_by (Some (step_lacks place g)) cost f h = absurd h
  goal_by None cost f h = absurd h

  pub broken_goal : (f : ℕ) → Judges (first_break task plan) (cost_of task plan) (Err (broken.Goal f)) → inputs.Broken task (broken.Goal f) ≡ judged_plan task plan (first_break task plan)
  broken_goal f h = goal_by (first_break task plan) (cost_of task plan) f h
