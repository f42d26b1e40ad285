-- Of three texts that are told, each status that they decide comes exactly where its cause stands, and a valid plan is told so.
use Rattle.std.proofs.Common.{◌≡◌, ◌⊎◌, inl, inr, ℕ, Bool, List, Option, Some, None, refl, sym, ap, ◌∙◌, subst}
use Rattle.bd_base.specs.Shelf.{Told, text}
use Rattle.bd_base.specs.declared.text_err.Cause.{Cause}
use Rattle.bd_base.specs.declared.text_err.Limit.{Limit}
use Rattle.bd_task.specs.TaskView.{TaskView}
use Rattle.bd_task.specs.Valid.{cost_of}
use Rattle.seq_check.specs.declared.judging.Broken.{Broken}
use Rattle.task_inputs.specs.declared.answers.Part.{Part}
use Rattle.task_inputs.specs.declared.answers.Inputs.{Inputs}
use Rattle.task_inputs.specs.declared.answers.Inputs.TheVariants as inputs
use Rattle.task_inputs.specs.Reads.{Counts, IsToldAs}
use Rattle.task_inputs.specs.Inputs.{outcome, LeadsTo, IsValidPlan}
use Rattle.task_inputs.proofs.ValidLemmas.{valid_plans_law}
use Rattle.task_inputs.proofs.Laws.{leads_outcome, faultless_outcome}
use Rattle.run_texts.specs.declared.record.RunRecord.{RunRecord}
use Rattle.bd_top.specs.declared.status.File.{File}
use Rattle.bd_top.specs.declared.status.Status.{Status}
use Rattle.bd_top.specs.declared.status.Status.TheVariants as status
use Rattle.bd_top.specs.Prepared.{AsksErrands, Names, NamesTexts, IsErrandsRefusal, IsNamedRefusal, IsTextsRefusal, IsRefusal, TextsLead, Tells, file_by, name_by}
use Rattle.bd_top.specs.Plans.{IsCheckedPlan}
use Rattle.run_texts.specs.Taken.{Taken, HasFailed}
use Rattle.bd_top.specs.Words.{texts_named}
use Rattle.command_words.specs.Asked.{Names as TextNames}
use Rattle.bd_top.specs.Run.{Ends, HasWriteFault, IsExactCheck, IsExactFor, AreNamedTexts, IsGoodPlan, BreaksFirst, IsFirstFault, IsFaultless, IsDoneOrNoMemory}
use Rattle.bd_top.proofs.CommandLemmas.{errands_no_texts, one_command}

names_same : (o : Option TextNames) (m n : TextNames) → o ≡ Some m → o ≡ Some n → m ≡ n
names_same o m n e h = cc

some_none : (o : Option TextNames) (m : TextNames) → o ≡ Some m → o ≡ None → ⊥
some_none o m e h = cc

-- one outcome is not another
module _ (o : Inputs) where
  ready_broken : (t u : TaskView) (l : List ℕ) (cost : ℕ) (b : Broken) → o ≡ inputs.Ready t l cost → o ≡ inputs.Broken u b → ⊥
  ready_broken t u l cost b e f = cc

  ready_refused : (t : TaskView) (l : List ℕ) (cost : ℕ) (p : Part) (place : ℕ) (cause : Cause) → o ≡ inputs.Ready t l cost → o ≡ inputs.Refused p place cause → ⊥
  ready_refused t l cost p place cause e f = cc

  broken_refused : (t : TaskView) (b : Broken) (p : Part) (place : ℕ) (cause : Cause) → o ≡ inputs.Broken t b → o ≡ inputs.Refused p place cause → ⊥
  broken_refused t b p place cause e f = cc

  one_broken : (t u : TaskView) (b d : Broken) → o ≡ inputs.Broken t b → o ≡ inputs.Broken u d → b ≡ d
  one_broken t u b d e f = cc

  one_refused : (p r : Part) (place other : ℕ) (c d : Cause) → o ≡ inputs.Refused p place c → o ≡ inputs.Refused r other d → (p ≡ r) × (place ≡ other) × (c ≡ d)
  one_refused p r place other c d e f = (cc, cc, cc)

done_invalid : (b : Broken) → status.Done ≡ status.PlanInvalid b → ⊥
done_invalid b e = cc

done_refused : (f : File) (place : ℕ) (c : Cause) → status.Done ≡ status.TextRefused f place c → ⊥
done_refused f place c e = cc

invalid_refused : (b : Broken) (f : File) (place : ℕ) (c : Cause) → status.PlanInvalid b ≡ status.TextRefused f place c → ⊥
invalid_refused b f place c e = cc

invalid_unread : (b : Broken) (n : List ℕ) (missing : Bool) → status.PlanInvalid b ≡ status.ReadFault n missing → ⊥
invalid_unread b n missing e = cc

invalid_over : (b : Broken) (l : Limit) (count : ℕ) → status.PlanInvalid b ≡ status.OverLimit l count → ⊥
invalid_over b l count e = cc

refused_unread : (f : File) (place : ℕ) (c : Cause) (n : List ℕ) (missing : Bool) → status.TextRefused f place c ≡ status.ReadFault n missing → ⊥
refused_unread f place c n missing e = cc

refused_over : (f : File) (place : ℕ) (c : Cause) (l : Limit) (count : ℕ) → status.TextRefused f place c ≡ status.OverLimit l count → ⊥
refused_over f place c l count e = cc

invalid_same : (b d : Broken) → status.PlanInvalid b ≡ status.PlanInvalid d → b ≡ d
invalid_same b d e = cc

refused_same : (f g : File) (place other : ℕ) (c d : Cause) → status.TextRefused f place c ≡ status.TextRefused g other d → (f ≡ g) × (place ≡ other) × (c ≡ d)
refused_same f g place other c d e = (cc, cc, cc)

refused_eq : (f g : File) (place other : ℕ) (c d : Cause) → f ≡ g → place ≡ other → c ≡ d → status.TextRefused f place c ≡ status.TextRefused g other d
refused_eq f g place other c d a e h = cc

pub valid_outcome : (d p q : List ℕ) (task : TaskView) (list : List ℕ) → IsValidPlan d p q task list → outcome d p q ≡ inputs.Ready task list (cost_of task list)
valid_outcome d p q task list v = (valid_plans_law d p q task list (cost_of task list)).1 (v, refl)

-- of three texts, each status comes exactly where its cause stands
module _ (d p q : List ℕ) where
  pub valid_exact : (task : TaskView) (list : List ℕ) → IsValidPlan d p q task list → IsExactFor d p q status.Done
  valid_exact task list v = record {
    done = ((λ e. record { task = task; list = list; valid = v }), (λ h. refl));
    invalid = λ b. ((λ e. absurd (done_invalid b e)), (λ x. absurd (ready_broken (outcome d p q) task x.task list (cost_of task list) b (valid_outcome d p q task list v) x.leads)));
    refused = λ f place c. ((λ e. absurd (done_refused f place c e)), (λ x. absurd (ready_refused (outcome d p q) task list (cost_of task list) x.part place c (valid_outcome d p q task list v) x.leads)));
  }

  pub broken_exact : (b : Broken) → BreaksFirst d p q b → IsExactFor d p q (status.PlanInvalid b)
  broken_exact b x = record {
    done = ((λ e. absurd (done_invalid b (sym e))), (λ v. absurd (ready_broken (outcome d p q) v.task x.task v.list (cost_of v.task v.list) b (valid_outcome d p q v.task v.list v.valid) x.leads)));
    invalid = λ other. ((λ e. subst (λ z. BreaksFirst d p q z) (invalid_same b other e) x), (λ y. ap (λ z. status.PlanInvalid z) (one_broken (outcome d p q) x.task y.task b other x.leads y.leads)));
    refused = λ f place c. ((λ e. absurd (invalid_refused b f place c e)), (λ y. absurd (broken_refused (outcome d p q) x.task b y.part place c x.leads y.leads)));
  }

  one_fault : (f g : File) (place other : ℕ) (cause more : Cause) → IsFirstFault d p q f place cause → IsFirstFault d p q g other more → status.TextRefused f place cause ≡ status.TextRefused g other more
  one_fault f g place other cause more x y =
      let s = one_refused (outcome d p q) x.part y.part place other cause more x.leads y.leads in
      refused_eq f g place other cause more (x.of_part ∙ ap file_by s.0 ∙ sym y.of_part) s.1 s.2

  same_fault : (f g : File) (place other : ℕ) (cause more : Cause) → status.TextRefused f place cause ≡ status.TextRefused g other more → IsFirstFault d p q f place cause → IsFirstFault d p q g other more
  same_fault f g place other cause more e x =
      let s = refused_same f g place other cause more e in
      record { part = x.part; of_part = sym s.0 ∙ x.of_part; leads = x.leads ∙ ap (λ z. inputs.Refused x.part z cause) s.1 ∙ ap (λ z. inputs.Refused x.part other z) s.2 }

  pub refused_exact : (f : File) (place : ℕ) (cause : Cause) → IsFirstFault d p q f place cause → IsExactFor d p q (status.TextRefused f place cause)
  refused_exact f place cause x = record {
    done = ((λ e. absurd (done_refused f place cause (sym e))), (λ v. absurd (ready_refused (outcome d p q) v.task v.list (cost_of v.task v.list) x.part place cause (valid_outcome d p q v.task v.list v.valid) x.leads)));
    invalid = λ b. ((λ e. absurd (invalid_refused b f place cause (sym e))), (λ y. absurd (broken_refused (outcome d p q) y.task b x.part place cause y.leads x.leads)));
    refused = λ g other more. ((λ e. same_fault f g place other cause more e x), (λ y. one_fault f g place other cause more x y));
  }

-- what a status that tells of an outcome says of it
pub broken_result : (names : TextNames) (r : Inputs) (b : Broken) (line : List ℕ) → Tells names r (status.PlanInvalid b) line → (task : TaskView) × (r ≡ inputs.Broken task b)
broken_result names (inputs.Broken task d) b line h = (task, ap (λ z. inputs.Broken task z) (sym (invalid_same b d h.0)))
broken_result names (inputs.Unread p missing) b line h = absurd (invalid_unread b (name_by names p) missing h.0)
broken_result names (inputs.Refused p place cause) b line h = absurd (invalid_refused b (file_by p) place cause h.0)
broken_result names (inputs.Over l count) b line h = absurd (invalid_over b l count h.0)
broken_result names (inputs.Ready task plan cost) b line h = absurd h
broken_result names inputs.NoMemory b line h = absurd h

pub refused_result : (names : TextNames) (r : Inputs) (f : File) (place : ℕ) (cause : Cause) (line : List ℕ) → Tells names r (status.TextRefused f place cause) line → (p : Part) × (f ≡ file_by p) × (r ≡ inputs.Refused p place cause)
refused_result names (inputs.Refused p other d) f place cause line h =
    let s = refused_same f (file_by p) place other cause d h.0 in (p, s.0, ap (λ z. inputs.Refused p z d) (sym s.1) ∙ ap (λ z. inputs.Refused p place z) (sym s.2))
refused_result names (inputs.Broken task d) f place cause line h = absurd (invalid_refused d f place cause (sym h.0))
refused_result names (inputs.Unread p missing) f place cause line h = absurd (refused_unread f place cause (name_by names p) missing h.0)
refused_result names (inputs.Over l count) f place cause line h = absurd (refused_over f place cause l count h.0)
refused_result names (inputs.Ready task plan cost) f place cause line h = absurd h
refused_result names inputs.NoMemory f place cause line h = absurd h

module _ (words : List (List ℕ)) (tells : List ℕ → Told) where
  -- what is told of the names, at the texts that are told
  lead_at : (c : Counts) (d p q : List ℕ) (names : TextNames) (result : Inputs) → texts_named words ≡ Some names → AreNamedTexts words tells d p q → TextsLead names tells c result → LeadsTo (text d) (text p) (text q) c result
  lead_at c d p q names result named n h =
      let same : names ≡ n.names = names_same (texts_named words) names n.names named n.named in
      subst (λ z. LeadsTo (text d) (text p) z c result) n.plan_told (subst (λ z. LeadsTo (text d) z (tells n.names.plan) c result) n.problem_told (subst (λ z. LeadsTo z (tells n.names.problem) (tells n.names.plan) c result) n.domain_told
      (subst (λ z. TextsLead z tells c result) same h)))

  plan_at : (cost : ℕ) (h : IsCheckedPlan words tells cost) (d p q : List ℕ) → AreNamedTexts words tells d p q → IsValidPlan d p q h.task h.list
  plan_at cost h d p q n =
      let same : h.names ≡ n.names = names_same (texts_named words) h.names n.names h.named n.named in
      let is_d : d ≡ h.domain = subst (λ z. IsToldAs z h.domain) n.domain_told (subst (λ (z : TextNames). IsToldAs (tells z.domain) h.domain) same h.domain_told) in
      let is_p : p ≡ h.problem = subst (λ z. IsToldAs z h.problem) n.problem_told (subst (λ (z : TextNames). IsToldAs (tells z.problem) h.problem) same h.problem_told) in
      let is_q : q ≡ h.plan = subst (λ z. IsToldAs z h.plan) n.plan_told (subst (λ (z : TextNames). IsToldAs (tells z.plan) h.plan) same h.plan_told) in
      subst (λ z. IsValidPlan d p z h.task h.list) (sym is_q) (subst (λ z. IsValidPlan d z h.plan h.task h.list) (sym is_p) (subst (λ z. IsValidPlan z h.problem h.plan h.task h.list) (sym is_d) h.valid))

  pub check_done : (cost : ℕ) → IsCheckedPlan words tells cost → IsExactCheck words tells status.Done
  check_done cost h = λ d p q n. valid_exact d p q h.task h.list (plan_at cost h d p q n)

  module _ (c : Counts) where
    broken_at : (b : Broken) (line : List ℕ) → NamesTexts words (λ names. IsTextsRefusal names tells c (status.PlanInvalid b) line) → (d p q : List ℕ) → AreNamedTexts words tells d p q → BreaksFirst d p q b
    broken_at b line h d p q n =
        let r = broken_result h.names h.holds.result b line h.holds.told in
        record { task = r.0; leads = leads_outcome d p q c (inputs.Broken r.0 b) (λ part t is k. k) (subst (λ z. LeadsTo (text d) (text p) (text q) c z) r.1 (lead_at c d p q h.names h.holds.result h.named n h.holds.leads)) }

    pub check_invalid : (b : Broken) (line : List ℕ) → NamesTexts words (λ names. IsTextsRefusal names tells c (status.PlanInvalid b) line) → IsExactCheck words tells (status.PlanInvalid b)
    check_invalid b line h = λ d p q n. broken_exact d p q b (broken_at b line h d p q n)

    refused_at : (f : File) (place : ℕ) (cause : Cause) (line : List ℕ) → NamesTexts words (λ names. IsTextsRefusal names tells c (status.TextRefused f place cause) line) → (d p q : List ℕ) → AreNamedTexts words tells d p q → IsFirstFault d p q f place cause
    refused_at f place cause line h d p q n =
        let r = refused_result h.names h.holds.result f place cause line h.holds.told in
        record { part = r.0; of_part = r.1; leads = leads_outcome d p q c (inputs.Refused r.0 place cause) (λ part t is k. k) (subst (λ z. LeadsTo (text d) (text p) (text q) c z) r.2 (lead_at c d p q h.names h.holds.result h.named n h.holds.leads)) }

    pub check_refused : (f : File) (place : ℕ) (cause : Cause) (line : List ℕ) → NamesTexts words (λ names. IsTextsRefusal names tells c (status.TextRefused f place cause) line) → IsExactCheck words tells (status.TextRefused f place cause)
    check_refused f place cause line h = λ d p q n. refused_exact d p q f place cause (refused_at f place cause line h d p q n)

-- a valid plan is told so, where nothing outside fails
module _ (words : List (List ℕ)) (tells : List ℕ → Told) (d p q : List ℕ) (good : IsGoodPlan words tells d p q) (c : Counts) (faultless : IsFaultless c.faults c.faults_after) where
  no_tell : (names : TextNames) (r : Inputs) (why : Status) (line : List ℕ) → r ≡ inputs.Ready good.task good.list (cost_of good.task good.list) → Tells names r why line → ⊥
  no_tell names r why line e h = subst (λ z. Tells names z why line) e h

  no_texts_refusal : (names : TextNames) (why : Status) (line : List ℕ) → texts_named words ≡ Some names → IsTextsRefusal names tells c why line → ⊥
  no_texts_refusal names why line named h =
      no_tell names h.result why line
      (sym (faultless_outcome d p q c h.result faultless good.short_domain good.short_problem good.short_plan (lead_at words tells c d p q names h.result named good.told h.leads)) ∙ valid_outcome d p q good.task good.list good.valid)
      h.told

  of_name : (why : Status) (line : List ℕ) → Names words (λ name. IsNamedRefusal name (tells name) c why line) ⊎ NamesTexts words (λ names. IsTextsRefusal names tells c why line) ⊎ AsksErrands words (λ size. IsErrandsRefusal size why line) → ⊥
  of_name why line (inl h) = one_command words h.name good.told.names h.named good.told.named
  of_name why line (inr (inl h)) = no_texts_refusal h.names why line h.named h.holds
  of_name why line (inr (inr h)) = errands_no_texts words h.size h.asked good.told.names good.told.named

  no_refusal : (why : Status) (line : List ℕ) → IsRefusal words tells c why line → ⊥
  no_refusal status.Usage line h = some_none (texts_named words) good.told.names good.told.named h.1
  no_refusal status.Done line h = of_name status.Done line h
  no_refusal (status.PlanInvalid b) line h = of_name (status.PlanInvalid b) line h
  no_refusal (status.TextRefused f place cause) line h = of_name (status.TextRefused f place cause) line h
  no_refusal (status.ReadFault n missing) line h = of_name (status.ReadFault n missing) line h
  no_refusal status.WriteFault line h = of_name status.WriteFault line h
  no_refusal (status.OverLimit l count) line h = of_name (status.OverLimit l count) line h
  no_refusal status.NoMemory line h = of_name status.NoMemory line h

  failed : (out notes : Taken) → IsFaultless out.faults out.faults_after → IsFaultless notes.faults notes.faults_after → HasFailed out ⊎ HasFailed notes → ⊥
  failed out notes quiet still (inl h) = quiet h
  failed out notes quiet still (inr h) = still h

  no_fault : (out notes : Taken) (run : Option RunRecord) → IsFaultless out.faults out.faults_after → IsFaultless notes.faults notes.faults_after → HasWriteFault words tells out notes run → ⊥
  no_fault out notes None quiet still h = quiet h.printed.failed
  no_fault out notes (Some run) quiet still (inl h) = failed out notes quiet still h.failed
  no_fault out notes (Some run) quiet still (inr (inl h)) = quiet h.printed.failed
  no_fault out notes (Some run) quiet still (inr (inr (inl h))) = quiet h.printed.failed
  no_fault out notes (Some run) quiet still (inr (inr (inr h))) = quiet h.printed.failed

  pub checked : (out notes : Taken) (why : Status) (run : Option RunRecord) → IsFaultless out.faults out.faults_after → IsFaultless notes.faults notes.faults_after →
      Ends words tells c out notes why run → IsDoneOrNoMemory why
  checked out notes status.Done run quiet still h = tt
  checked out notes status.NoMemory run quiet still h = tt
  checked out notes status.WriteFault run quiet still h = no_fault out notes run quiet still h
  checked out notes status.Usage run quiet still h = no_refusal status.Usage h.line h.refusal
  checked out notes (status.PlanInvalid b) run quiet still h = no_refusal (status.PlanInvalid b) h.line h.refusal
  checked out notes (status.TextRefused f place cause) run quiet still h = no_refusal (status.TextRefused f place cause) h.line h.refusal
  checked out notes (status.ReadFault n missing) run quiet still h = no_refusal (status.ReadFault n missing) h.line h.refusal
  checked out notes (status.OverLimit l count) run quiet still h = no_refusal (status.OverLimit l count) h.line h.refusal
