-- How the command `deorder` ends, and what is known of the plan that it is given.
use Rattle.std.proofs.Common.{◌≡◌, ℕ, ◌<◌, ◌≤◌, Bool, true, false, cond, nat_lt, List, length, map, All, Option, Some, None, Result, Ok, Err, sym, ap, ◌∙◌, subst, inl, inr, arith}
use Rattle.std.proofs.lemmas.Bool.{cases_lt, lt-ltb}
use Rattle.std.proofs.lemmas.List.{length-map}
use Rattle.bd_base.specs.Shelf.{Told}
use Rattle.bd_base.specs.declared.text_err.Limit.{Limit}
use Rattle.bd_base.specs.declared.text_err.Limit.TheVariants as limits
use Rattle.bd_task.specs.TaskView.{TaskView}
use Rattle.task_inputs.specs.Inputs.{IsValidPlan}
use Rattle.task_inputs.specs.Reads.{Counts}
use Rattle.task_inputs.proofs.CallsLemmas.{from_list, in_task}
use Rattle.task_inputs.proofs.Laws.{ready_texts}
use Rattle.run_texts.specs.declared.record.RunRecord.{RunRecord}
use Rattle.run_texts.specs.declared.putting.Stop.{Stop}
use Rattle.run_texts.specs.declared.putting.Stop.TheVariants as stop
use Rattle.bd_top.specs.declared.status.Status.{Status}
use Rattle.bd_top.specs.declared.status.Status.TheVariants as status
use Rattle.bd_top.specs.Deorder.{IsDeorderRun, IsKnown, Loosens, TellsTree, told_tree}
use Rattle.bd_top.specs.Plans.{IsCheckedPlan}
use Rattle.bd_top.specs.Prepared.{LeadToTask, NamesTexts}
use Rattle.run_texts.specs.Taken.{Puts, Taken, IsSilent}
use Rattle.bd_top.specs.Run.{Ends, status_by}
use Rattle.bd_top.specs.declared.purpose.Purpose.TheVariants as purpose
use Rattle.bd_top.specs.Words.{purpose_asked}

abbrev passed : Option (Limit × ℕ)
passed = Some (limits.Steps, 2_001)

abbrev kept : Option (Limit × ℕ)
kept = None

-- a plan within its limit has at most 2,000 calls
few_calls : (n : ℕ) → cond (nat_lt 2_000 n) passed kept ≡ kept → n ≤ 2_000
few_calls n e = elim (cases_lt 2_000 n) [ inl more ↦ absurd (no_limit (nat_lt 2_000 n) (lt-ltb 2_000 n more) e) | inr few ↦ few ]
  where
    no_limit : (b : Bool) → b ≡ true → cond b passed kept ≡ kept → ⊥
    no_limit true is e = cc
    no_limit false is e = cc

map_lengths : {X : Type 0} {Y : Type 0} {Z : Type 0} (f : X → Z) (g : Y → Z) (xs : List X) (ys : List Y) → map f xs ≡ map g ys → length xs ≡ length ys
map_lengths f g xs ys e = sym (length-map xs f) ∙ ap (λ z. length z) e ∙ length-map ys g

pub known_plan : (d p q : List ℕ) (task : TaskView) (list : List ℕ) → IsValidPlan d p q task list → IsKnown task list
known_plan d p q task list v = record {
  in_range = subst (λ (t : TaskView). All (λ a. a < length t.actions) list) (sym v.grounded) (in_task v.d v.p v.calls list v.listed);
  few = omega (arith, few_calls (length v.calls) v.few_steps, map_lengths _ _ v.calls list (from_list v.d v.p v.calls list v.listed));
  valid = v.valid;
}

module _ (words : List (List ℕ)) (tells : List ℕ → Told) (c : Counts) (task : TaskView) (plan : List ℕ) (h : NamesTexts words (λ names. LeadToTask names tells c task plan)) where
  pub plan_known : IsKnown task plan
  plan_known =
      let r = ready_texts task plan h.holds.cost (tells h.names.domain) (tells h.names.problem) (tells h.names.plan) c h.holds.leads in
      known_plan r.d r.p r.q task plan r.valid

  abbrev pub plan_checked : IsCheckedPlan words tells h.holds.cost
  plan_checked =
      let r = ready_texts task plan h.holds.cost (tells h.names.domain) (tells h.names.problem) (tells h.names.plan) c h.holds.leads in
      record {
        names = h.names;
        named = h.named;
        domain = r.d;
        problem = r.p;
        plan = r.q;
        domain_told = r.domain_told;
        problem_told = r.problem_told;
        plan_told = r.plan_told;
        task = task;
        list = plan;
        valid = r.valid;
        costs = r.costs;
      }

  module _ (span : ℕ) (asked : purpose_asked words ≡ Some (purpose.Deorder span)) (out notes : Taken) (silent : IsSilent notes) where
    deorder_run : (run : RunRecord) → Loosens task plan span run → IsDeorderRun words tells run
    deorder_run run l = record { span = span; asked = asked; cost = h.holds.cost; checked = plan_checked; loosens = l }

    pub ends_deordered : (st : Status) (run : Option RunRecord) → TellsTree task plan span out st run → Ends words tells c out notes st run
    ends_deordered status.Done (Some run) t = inr (inl (record { is_run = deorder_run run t.0; printed = t.1; noted = silent }))
    ends_deordered status.WriteFault (Some run) t = inr (inl (record { is_run = deorder_run run t.0; printed = t.1; noted = silent }))
    ends_deordered status.NoMemory (Some run) t = inr (inl (record { is_run = deorder_run run t.0; nothing = t.1; noted = silent }))
    ends_deordered status.NoMemory None t = (t, silent)
    ends_deordered st run t = absurd t

-- the put of a tree's text
module _ (task : TaskView) (list : List ℕ) (span : ℕ) (run : RunRecord) (out : Taken) (loosens : Loosens task list span run) where
  told_by : (put : Result (Unit {0}) Stop) → Puts (told_tree run) out put → TellsTree task list span out (status_by put) (Some run)
  told_by (Ok done) h = (loosens, h)
  told_by (Err stop.WriteFault) h = (loosens, h)
  told_by (Err stop.NoMemory) h = (loosens, h)

  pub tells_tree : (put : Result (Unit {0}) Stop) (st : Status) → st ≡ status_by put → Puts (told_tree run) out put → TellsTree task list span out st (Some run)
  tells_tree put st is h = subst (λ z. TellsTree task list span out z (Some run)) (sym is) (told_by put h)
