-- What the texts that a shelf tells lead to, where the shelf tells them, and where they are ready.
use Rattle.std.proofs.Common.{◌≡◌, ◌⊎◌, inl, inr, ℕ, ◌<◌, ◌≤◌, true, false, Bool, List, Option, Some, None, Result, Ok, Err, length, refl, sym, ap, ◌∙◌, subst, arith}
use Rattle.bd_base.specs.Causes.{Rose}
use Rattle.bd_base.specs.Shelf.{Told, text}
use Rattle.bd_base.specs.declared.text_err.Limit.{Limit}
use Rattle.bd_base.specs.declared.text_err.Limit.TheVariants as limits
use Rattle.bd_task.specs.TaskView.{TaskView}
use Rattle.bd_task.specs.Valid.{cost_of}
use Rattle.pddl_form.specs.Fault.{Fault}
use Rattle.pddl_domain.specs.Whole.{over_of as domain_over}
use Rattle.pddl_problem.specs.Whole.{over_of as problem_over}
use Rattle.plan_text.specs.Calls.{plan_at, over_of as plan_over}
use Rattle.task_inputs.specs.declared.answers.Part.{Part}
use Rattle.task_inputs.specs.declared.answers.Part.TheVariants as part
use Rattle.task_inputs.specs.declared.answers.Inputs.{Inputs}
use Rattle.task_inputs.specs.declared.answers.Inputs.TheVariants as inputs
use Rattle.task_inputs.specs.Reads.{Counts, IsToldAs, IsUnread, IsLong}
use Rattle.task_inputs.specs.Inputs.{Step, ends, gives, follows, within, read_step, domain_in, problem_in, domain_step, problem_step, plan_step, calls_end, outcome, HasNoText, FollowsBy, After, AfterPlan, AfterProblem, LeadsTo, IsValidPlan}
use Rattle.task_inputs.proofs.ValidLemmas.{valid_plans_law}

module _ {A : Type 0} (part : Part) (t : List ℕ) (c : Counts) (step : List ℕ → Step A) (next : A → Inputs → Type 0) (result : Inputs) where
  from_told : (HasNoText part (text t) c result → ⊥) → After part (text t) c step next result → FollowsBy (step t) next result
  from_told never (inl h) = absurd (never h)
  from_told never (inr r) = subst (λ u. FollowsBy (step u) next result) (sym r.is_told) r.holds

to_outcome : {A : Type 0} (s : Step A) (next : A → Inputs → Type 0) (f : A → Inputs) (result : Inputs) → FollowsBy s next result → ((x : A) → next x result → f x ≡ result) → follows s f ≡ result
to_outcome (ends o) next f result h k = sym h
to_outcome (gives x) next f result h k = k x h

-- of texts that are told, and are read, there is one outcome
pub leads_outcome : (d p q : List ℕ) (c : Counts) (result : Inputs) → ((part : Part) (t : List ℕ) → (t ≡ d) ⊎ ((t ≡ p) ⊎ (t ≡ q)) → HasNoText part (text t) c result → ⊥) → LeadsTo (text d) (text p) (text q) c result → outcome d p q ≡ result
leads_outcome d p q c result never h =
    to_outcome (domain_step d) (λ dom r. AfterProblem dom (text p) (text q) c r) (λ dom. follows (problem_step dom p) (λ prob. follows (plan_step dom prob q) (λ calls. calls_end dom prob calls))) result
    (from_told part.Domain d c (λ t. domain_step t) (λ dom r. AfterProblem dom (text p) (text q) c r) result (never part.Domain d (inl refl)) h)
    (λ dom k. to_outcome (problem_step dom p) (λ prob r. AfterPlan dom prob (text q) c r) (λ prob. follows (plan_step dom prob q) (λ calls. calls_end dom prob calls)) result
    (from_told part.Problem p c (λ t. problem_step dom t) (λ prob r. AfterPlan dom prob (text q) c r) result (never part.Problem p (inr (inl refl))) k)
    (λ prob l. to_outcome (plan_step dom prob q) (λ calls r. r ≡ calls_end dom prob calls) (λ calls. calls_end dom prob calls) result
    (from_told part.Plan q c (λ t. plan_step dom prob t) (λ calls r. r ≡ calls_end dom prob calls) result (never part.Plan q (inr (inr refl))) l)
    (λ calls e. sym e)))

-- of texts that are told, of at most 16 MiB, there is one outcome where nothing fails
pub faultless_outcome : (d p q : List ℕ) (c : Counts) (result : Inputs) → (Rose c.faults c.faults_after → ⊥) → length d ≤ 16_777_216 → length p ≤ 16_777_216 → length q ≤ 16_777_216 →
    LeadsTo (text d) (text p) (text q) c result → outcome d p q ≡ result
faultless_outcome d p q c result quiet sd sp sq h = leads_outcome d p q c result (λ which t is k. none which t (short t is) result k) h
  where
    short : (t : List ℕ) → (t ≡ d) ⊎ ((t ≡ p) ⊎ (t ≡ q)) → length t ≤ 16_777_216
    short t (inl e) = omega (arith, ap length e, sd)
    short t (inr (inl e)) = omega (arith, ap length e, sp)
    short t (inr (inr e)) = omega (arith, ap length e, sq)

    unread : (t : List ℕ) (missing : Bool) → IsUnread (text t) c missing → ⊥
    unread t true k = k
    unread t false k = quiet k.0

    long : (t : List ℕ) → length t ≤ 16_777_216 → IsLong (text t) c → ⊥
    long t le k = let more : 16_777_216 < length t = k.1 in omega arith

    none : (which : Part) (t : List ℕ) → length t ≤ 16_777_216 → (result : Inputs) → HasNoText which (text t) c result → ⊥
    none which t le (inputs.Unread p missing) k = unread t missing k.1
    none which t le (inputs.Over limits.Text count) k = long t le k.1
    none which t le (inputs.Over limits.Parameters count) k = k
    none which t le (inputs.Over limits.Objects count) k = k
    none which t le (inputs.Over limits.Facts count) k = k
    none which t le (inputs.Over limits.Actions count) k = k
    none which t le (inputs.Over limits.Steps count) k = k
    none which t le (inputs.Over limits.Offers count) k = k
    none which t le (inputs.Ready task plan cost) k = k
    none which t le (inputs.Refused p place cause) k = k
    none which t le (inputs.Broken task b) k = k
    none which t le inputs.NoMemory k = k

module _ (task : TaskView) (list : List ℕ) (cost : ℕ) where
  abbrev ready : Inputs
  ready = inputs.Ready task list cost

  not_ended : {A : Type 0} (o : Option (Limit × ℕ)) (x : A) → within o x ≡ ends ready → ⊥
  not_ended None x e = cc
  not_ended (Some o) x e = cc

  not_ready : {A : Type 0} (part : Part) (over : A → Option (Limit × ℕ)) (read : Result A Fault) → read_step part over read ≡ ends ready → ⊥
  not_ready part over (Err f) e = cc
  not_ready part over (Ok x) e = not_ended (over x) x e

  -- what was read, and what it gave
  record Read {A : Type 0} (told : Told) (step : List ℕ → Step A) (next : A → Inputs → Type 0) : Type 0 where
    pub read : List ℕ
    pub is_told : IsToldAs told read
    pub value : A
    pub given : step read ≡ gives value
    pub onward : next value ready

  read_by : {A : Type 0} (told : Told) (step : List ℕ → Step A) (next : A → Inputs → Type 0) (t : List ℕ) → IsToldAs told t → (s : Step A) → step t ≡ s → (s ≡ ends ready → ⊥) → FollowsBy s next ready → Read told step next
  read_by told step next t is (ends o) e never h = absurd (never (ap (λ z. ends z) (sym h)))
  read_by told step next t is (gives x) e never h = record { read = t; is_told = is; value = x; given = e; onward = h }

  read_of : {A : Type 0} (part : Part) (told : Told) (c : Counts) (step : List ℕ → Step A) (next : A → Inputs → Type 0) → ((t : List ℕ) → step t ≡ ends ready → ⊥) → After part told c step next ready → Read told step next
  read_of part told c step next never (inl h) = absurd h
  read_of part told c step next never (inr r) = read_by told step next r.read r.is_told (step r.read) refl (never r.read) r.holds

  -- the texts of a plan that is ready
  pub record ReadyTexts (domain problem plan : Told) : Type 0 where
    pub d : List ℕ
    pub p : List ℕ
    pub q : List ℕ
    pub domain_told : IsToldAs domain d
    pub problem_told : IsToldAs problem p
    pub plan_told : IsToldAs plan q
    pub valid : IsValidPlan d p q task list
    pub costs : cost ≡ cost_of task list

  pub ready_texts : (domain problem plan : Told) (c : Counts) → LeadsTo domain problem plan c ready → ReadyTexts domain problem plan
  ready_texts domain problem plan c h =
      let a = read_of part.Domain domain c (λ t. domain_step t) (λ dom r. AfterProblem dom problem plan c r) (λ t. not_ready part.Domain domain_over (domain_in t)) h in
      let b = read_of part.Problem problem c (λ t. problem_step a.value t) (λ prob r. AfterPlan a.value prob plan c r) (λ t. not_ready part.Problem (problem_over a.value) (problem_in a.value t)) a.onward in
      let k = read_of part.Plan plan c (λ t. plan_step a.value b.value t) (λ calls r. r ≡ calls_end a.value b.value calls) (λ t. not_ready part.Plan plan_over (plan_at a.value b.value t)) b.onward in
      let is : outcome a.read b.read k.read ≡ ready =
      ap (λ s. follows s (λ dom. follows (problem_step dom b.read) (λ prob. follows (plan_step dom prob k.read) (λ calls. calls_end dom prob calls)))) a.given
      ∙ ap (λ s. follows s (λ prob. follows (plan_step a.value prob k.read) (λ calls. calls_end a.value prob calls))) b.given
      ∙ ap (λ s. follows s (λ calls. calls_end a.value b.value calls)) k.given
      ∙ sym k.onward in
      let v = (valid_plans_law a.read b.read k.read task list cost).0 is in
      record { d = a.read; p = b.read; q = k.read; domain_told = a.is_told; problem_told = b.is_told; plan_told = k.is_told; valid = v.0; costs = v.1 }
