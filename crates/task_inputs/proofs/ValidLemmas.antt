-- Three texts are ready exactly where the plan is valid.
use Rattle.std.proofs.Common.{◌≡◌, ◌↔◌, ℕ, List, Option, Some, None, Result, Ok, Err, refl, sym, ap, ◌∙◌, subst}
use Rattle.bd_base.specs.declared.text_err.Limit.{Limit}
use Rattle.bd_task.specs.TaskView.{TaskView}
use Rattle.bd_task.specs.Valid.{IsValid, Break, step_lacks, goal_lacks, first_break, cost_of}
use Rattle.seq_check.specs.declared.judging.Broken.{Broken}
use Rattle.seq_check.specs.declared.judging.Broken.TheVariants as broken
use Rattle.seq_check.proofs.BreakLemmas.{unbroken_is}
use Rattle.pddl_types.specs.declared.domains.Domain.{Domain}
use Rattle.pddl_types.specs.declared.problems.Problem.{Problem}
use Rattle.pddl_types.specs.declared.calls.Call.{Call}
use Rattle.pddl_form.specs.Fault.{Fault}
use Rattle.pddl_domain.specs.Whole.{over_of as domain_over}
use Rattle.pddl_problem.specs.Whole.{over_of as problem_over}
use Rattle.plan_text.specs.Calls.{plan_at, over_of as plan_over}
use Rattle.bd_ground.specs.Task.{ground_task}
use Rattle.bd_ground.specs.Calls.{IsLiterallyValid}
use Rattle.bd_ground.proofs.CallLemmas.{valid_law}
use Rattle.task_inputs.specs.declared.answers.Part.{Part}
use Rattle.task_inputs.specs.declared.answers.Part.TheVariants as part
use Rattle.task_inputs.specs.declared.answers.Inputs.{Inputs}
use Rattle.task_inputs.specs.declared.answers.Inputs.TheVariants as inputs
use Rattle.task_inputs.specs.Inputs.{follows, within, read_step, no_limit, ground_over, list_in, domain_in, problem_in, problem_step, plan_step, judged_plan, calls_end, outcome, IsValidPlan}
use Rattle.task_inputs.proofs.CallsLemmas.{in_task}

-- what a walk gives that comes to a ready plan
module _ (task : TaskView) (list : List ℕ) (cost : ℕ) where
  abbrev ready : Inputs
  ready = inputs.Ready task list cost

  refused_ready : (part : Part) (f : Fault) → inputs.Refused part f.0 f.1 ≡ ready → ⊥
  refused_ready part f e = cc

  over_ready : (o : Limit × ℕ) → inputs.Over o.0 o.1 ≡ ready → ⊥
  over_ready o e = cc

  from_within : {A : Type 0} (o : Option (Limit × ℕ)) (x : A) (next : A → Inputs) → follows (within o x) next ≡ ready → (o ≡ None) × (next x ≡ ready)
  from_within None x next e = (refl, e)
  from_within (Some o) x next e = absurd (over_ready o e)

  from_read : {A : Type 0} (part : Part) (over : A → Option (Limit × ℕ)) (read : Result A Fault) (next : A → Inputs) → follows (read_step part over read) next ≡ ready →
      (x : A) × (read ≡ Ok x) × (over x ≡ None) × (next x ≡ ready)
  from_read part over (Err f) next e = absurd (refused_ready part f e)
  from_read part over (Ok x) next e = let w = from_within (over x) x next e in (x, refl, w.0, w.1)

to_within : {A : Type 0} (o : Option (Limit × ℕ)) (x : A) (next : A → Inputs) → o ≡ None → follows (within o x) next ≡ next x
to_within o x next e = ap (λ z. follows (within z x) next) e

to_read : {A : Type 0} (part : Part) (over : A → Option (Limit × ℕ)) (read : Result A Fault) (x : A) (next : A → Inputs) → read ≡ Ok x → over x ≡ None → follows (read_step part over read) next ≡ next x
to_read part over read x next e f = ap (λ z. follows (read_step part over z) next) e ∙ to_within (over x) x next f

broken_ready : (t u : TaskView) (b : Broken) (l : List ℕ) (c : ℕ) → inputs.Broken t b ≡ inputs.Ready u l c → ⊥
broken_ready t u b l c e = cc

from_judged : (ground : TaskView) (plan : List ℕ) (b : Option Break) (task : TaskView) (list : List ℕ) (cost : ℕ) → judged_plan ground plan b ≡ inputs.Ready task list cost →
    (b ≡ None) × (ground ≡ task) × (plan ≡ list) × (cost_of ground plan ≡ cost)
from_judged ground plan None task list cost e = (refl, task_same e, list_same e, cost_same e)
  where
    task_same : {t u : TaskView} {l m : List ℕ} {c k : ℕ} → inputs.Ready t l c ≡ inputs.Ready u m k → t ≡ u
    task_same e = cc

    list_same : {t u : TaskView} {l m : List ℕ} {c k : ℕ} → inputs.Ready t l c ≡ inputs.Ready u m k → l ≡ m
    list_same e = cc

    cost_same : {t u : TaskView} {l m : List ℕ} {c k : ℕ} → inputs.Ready t l c ≡ inputs.Ready u m k → c ≡ k
    cost_same e = cc
from_judged ground plan (Some (step_lacks place f)) task list cost e = absurd (broken_ready ground task (broken.Step place f) list cost e)
from_judged ground plan (Some (goal_lacks f)) task list cost e = absurd (broken_ready ground task (broken.Goal f) list cost e)

module _ (d : Domain) (p : Problem) (calls : List Call) (task : TaskView) (list : List ℕ) (cost : ℕ) where
  -- what the calls come to
  pub record Comes : Type 0 where
    pub few_ground : ground_over d p ≡ None
    pub grounded : task ≡ ground_task d p
    pub listed : list_in d p calls ≡ Ok list
    pub valid : IsValid task list
    pub runs : IsLiterallyValid d p list
    pub costs : cost ≡ cost_of task list

  valid_in : (l : List ℕ) → list_in d p calls ≡ Ok l → first_break (ground_task d p) l ≡ None → IsValid (ground_task d p) l
  valid_in l e none = (unbroken_is (ground_task d p) l (in_task d p calls l e)).0 none

  pub comes : calls_end d p calls ≡ inputs.Ready task list cost → Comes
  comes e =
      let w = from_within task list cost (ground_over d p) (ground_task d p) (λ t. follows (read_step part.Plan no_limit (list_in d p calls)) (λ plan. judged_plan t plan (first_break t plan))) e in
      let r = from_read task list cost part.Plan no_limit (list_in d p calls) (λ plan. judged_plan (ground_task d p) plan (first_break (ground_task d p) plan)) w.1 in
      let j = from_judged (ground_task d p) r.0 (first_break (ground_task d p) r.0) task list cost r.3 in
      let valid : IsValid (ground_task d p) r.0 = valid_in r.0 r.1 j.0 in
      record {
        few_ground = w.0;
        grounded = sym j.1;
        listed = r.1 ∙ ap (λ z. Ok z) j.2;
        valid = subst (λ z. IsValid z list) j.1 (subst (λ z. IsValid (ground_task d p) z) j.2 valid);
        runs = (valid_law d p list).0 (subst (λ z. IsValid (ground_task d p) z) j.2 valid);
        costs = sym j.3 ∙ ap (λ z. cost_of (ground_task d p) z) j.2 ∙ ap (λ z. cost_of z list) j.1;
      }

  pub back : ground_over d p ≡ None → task ≡ ground_task d p → list_in d p calls ≡ Ok list → IsValid task list → cost ≡ cost_of task list → calls_end d p calls ≡ inputs.Ready task list cost
  back few grounded listed valid costs =
      to_within (ground_over d p) (ground_task d p) (λ t. follows (read_step part.Plan no_limit (list_in d p calls)) (λ plan. judged_plan t plan (first_break t plan))) few
      ∙ to_read part.Plan no_limit (list_in d p calls) list (λ plan. judged_plan (ground_task d p) plan (first_break (ground_task d p) plan)) listed refl
      ∙ ap (λ z. judged_plan (ground_task d p) list z) ((unbroken_is (ground_task d p) list (in_task d p calls list listed)).1 (subst (λ z. IsValid z list) grounded valid))
      ∙ ap (λ z. inputs.Ready z list (cost_of z list)) (sym grounded)
      ∙ ap (λ z. inputs.Ready task list z) (sym costs)

module _ (domain problem plan : List ℕ) (task : TaskView) (list : List ℕ) (cost : ℕ) where
  ready_valid : outcome domain problem plan ≡ inputs.Ready task list cost → IsValidPlan domain problem plan task list × (cost ≡ cost_of task list)
  ready_valid e =
      let a = from_read task list cost part.Domain domain_over (domain_in domain) (λ d. follows (problem_step d problem) (λ p. follows (plan_step d p plan) (λ calls. calls_end d p calls))) e in
      let b = from_read task list cost part.Problem (problem_over a.0) (problem_in a.0 problem) (λ p. follows (plan_step a.0 p plan) (λ calls. calls_end a.0 p calls)) a.3 in
      let c = from_read task list cost part.Plan plan_over (plan_at a.0 b.0 plan) (λ calls. calls_end a.0 b.0 calls) b.3 in
      let r = comes a.0 b.0 c.0 task list cost c.3 in (
        record {
          d = a.0;
          p = b.0;
          calls = c.0;
          is_domain = a.1;
          few_parameters = a.2;
          is_problem = b.1;
          few_objects = b.2;
          is_plan = c.1;
          few_steps = c.2;
          few_ground = r.few_ground;
          grounded = r.grounded;
          listed = r.listed;
          valid = r.valid;
          runs = r.runs;
        },
        r.costs,
      )

  valid_ready : IsValidPlan domain problem plan task list × (cost ≡ cost_of task list) → outcome domain problem plan ≡ inputs.Ready task list cost
  valid_ready h =
      let v : IsValidPlan domain problem plan task list = h.0 in
      to_read part.Domain domain_over (domain_in domain) v.d (λ d. follows (problem_step d problem) (λ p. follows (plan_step d p plan) (λ calls. calls_end d p calls))) v.is_domain v.few_parameters
      ∙ to_read part.Problem (problem_over v.d) (problem_in v.d problem) v.p (λ p. follows (plan_step v.d p plan) (λ calls. calls_end v.d p calls)) v.is_problem v.few_objects
      ∙ to_read part.Plan plan_over (plan_at v.d v.p plan) v.calls (λ calls. calls_end v.d v.p calls) v.is_plan v.few_steps
      ∙ back v.d v.p v.calls task list cost v.few_ground v.grounded v.listed v.valid h.1

pub valid_plans_law : (domain problem plan : List ℕ) (task : TaskView) (list : List ℕ) (cost : ℕ) → (outcome domain problem plan ≡ inputs.Ready task list cost) ↔ (IsValidPlan domain problem plan task list × (cost ≡ cost_of task list))
valid_plans_law domain problem plan task list cost = (ready_valid domain problem plan task list cost, valid_ready domain problem plan task list cost)
