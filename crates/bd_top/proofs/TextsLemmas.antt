-- What is prepared of three texts, and how the check of a plan ends.
use Rattle.std.proofs.Common.{◌≡◌, ◌⊎◌, inl, inr, ℕ, Bool, List, Option, Some, None, Result, Ok, Err, OnOk, OnErr, refl, sym, subst}
use Rattle.bd_base.specs.Causes.{HasCause, TakesPart, appended}
use Rattle.bd_base.specs.Shelf.{Told}
use Rattle.task_inputs.specs.declared.answers.Inputs.{Inputs}
use Rattle.task_inputs.specs.declared.answers.Inputs.TheVariants as inputs
use Rattle.task_inputs.specs.Reads.{Counts, IsUnread}
use Rattle.task_inputs.specs.Inputs.{Unless}
use Rattle.task_inputs.proofs.Laws.{ready_texts}
use Rattle.run_texts.specs.declared.record.RunRecord.{RunRecord}
use Rattle.bd_top.specs.declared.prepare.Prepared.{Prepared}
use Rattle.bd_top.specs.declared.prepare.Prepared.TheVariants as prepared
use Rattle.bd_top.specs.declared.status.Status.{Status}
use Rattle.bd_top.specs.declared.status.Status.TheVariants as status
use Rattle.run_texts.specs.declared.putting.Stop.{Stop}
use Rattle.run_texts.specs.declared.putting.Stop.TheVariants as stop
use Rattle.run_texts.specs.Taken.{Puts, Taken, IsSilent, Receives, IsCut}
use Rattle.bd_top.specs.Texts.{valid_line}
use Rattle.bd_top.specs.Prepared.{IsRefusal, Tells, NamesTexts, TextsLead, LeadToPlan, IsPreparedOf, IsReadFault, IsNamedRefusal, PreparesNamed, PreparesTexts}
use Rattle.bd_top.specs.declared.purpose.Purpose.{Purpose}
use Rattle.bd_top.specs.declared.purpose.Purpose.TheVariants as purpose
use Rattle.bd_top.specs.Words.{purpose_asked}
use Rattle.command_words.specs.Asked.{Names as TextNames}
use Rattle.bd_top.specs.Plans.{IsCheckedPlan}
use Rattle.bd_top.specs.Run.{Ends, Checks, IsRefused, status_by}

-- a script's text that couldn't be read
pub named_unread : (name : List ℕ) (told : Told) (c : Counts) (missing : Bool) (p : Prepared) → IsReadFault name missing p → IsUnread told c missing → PreparesNamed name told c p
named_unread name told c missing (prepared.Refused why line) h un = subst (λ z. IsNamedRefusal name told c z line) (sym h.0) (refl, h.1, un)
named_unread name told c missing prepared.NoMemory h un = tt
named_unread name told c missing (prepared.Ready script) h un = absurd h
named_unread name told c missing (prepared.Valid cost) h un = absurd h
named_unread name told c missing (prepared.Plan task plan span) h un = absurd h
named_unread name told c missing (prepared.Improvable task plan numbers) h un = absurd h
named_unread name told c missing (prepared.Errands task plan) h un = absurd h

module _ (aim : Purpose) (names : TextNames) (tells : List ℕ → Told) (c : Counts) where
  pub prepares : (result : Inputs) (p : Prepared) → Unless result (TextsLead names tells c result) → IsPreparedOf aim names result p → PreparesTexts aim names tells c p
  prepares (inputs.Ready task plan cost) (prepared.Valid same) h is = (is.0, record { task = task; plan = plan; leads = subst (λ z. TextsLead names tells c (inputs.Ready task plan z)) (sym is.1) h })
  prepares (inputs.Ready task plan cost) (prepared.Plan t list n) h is =
      (is.0, record { cost = cost; leads = subst (λ z. TextsLead names tells c (inputs.Ready z list cost)) (sym is.1) (subst (λ z. TextsLead names tells c (inputs.Ready task z cost)) (sym is.2) h) })
  prepares (inputs.Ready task plan cost) (prepared.Improvable t list numbers) h is =
      (is.0, record { cost = cost; leads = subst (λ z. TextsLead names tells c (inputs.Ready z list cost)) (sym is.1) (subst (λ z. TextsLead names tells c (inputs.Ready task z cost)) (sym is.2) h) })
  prepares (inputs.Unread part missing) (prepared.Refused why line) h is = record { result = inputs.Unread part missing; leads = h; told = is }
  prepares (inputs.Refused part place cause) (prepared.Refused why line) h is = record { result = inputs.Refused part place cause; leads = h; told = is }
  prepares (inputs.Over l count) (prepared.Refused why line) h is = record { result = inputs.Over l count; leads = h; told = is }
  prepares (inputs.Broken task b) (prepared.Refused why line) h is = record { result = inputs.Broken task b; leads = h; told = is }
  prepares result prepared.NoMemory h is = tt
  prepares result p h is = absurd is

-- the words name texts that lead to a plan of this cost
pub checked_plan : (words : List (List ℕ)) (tells : List ℕ → Told) (c : Counts) (cost : ℕ) → NamesTexts words (λ names. LeadToPlan names tells c cost) → IsCheckedPlan words tells cost
checked_plan words tells c cost h =
    let r = ready_texts h.holds.task h.holds.plan cost (tells h.names.domain) (tells h.names.problem) (tells h.names.plan) c h.holds.leads in
    record {
      names = h.names;
      named = h.named;
      domain = r.d;
      problem = r.p;
      plan = r.q;
      domain_told = r.domain_told;
      problem_told = r.problem_told;
      plan_told = r.plan_told;
      task = h.holds.task;
      list = h.holds.plan;
      valid = r.valid;
      costs = r.costs;
    }

pub ends_checked : (words : List (List ℕ)) (tells : List ℕ → Told) (c : Counts) (cost : ℕ) (out notes : Taken) (st : Status) (run : Option RunRecord) → purpose_asked words ≡ Some purpose.Check → NamesTexts words (λ names. LeadToPlan names tells c cost) → IsSilent notes → Checks cost out st run →
    Ends words tells c out notes st run
ends_checked words tells c cost out notes status.Done None only h silent k = record { checks = only; cost = cost; checked = checked_plan words tells c cost h; printed = k; noted = silent }
ends_checked words tells c cost out notes status.WriteFault None only h silent k = record { checks = only; cost = cost; checked = checked_plan words tells c cost h; printed = k; noted = silent }
ends_checked words tells c cost out notes status.NoMemory None only h silent k = (k, silent)
ends_checked words tells c cost out notes st run only h silent k = absurd k

checks_by : (cost : ℕ) (out : Taken) (put : Result (Unit {0}) Stop) → Puts (valid_line cost) out put → Checks cost out (status_by put) None
checks_by cost out (Ok done) h = h
checks_by cost out (Err stop.WriteFault) h = h
checks_by cost out (Err stop.NoMemory) h = h

-- the put of a cost
pub checks : (cost : ℕ) (out : Taken) (put : Result (Unit {0}) Stop) (st : Status) → st ≡ status_by put → Puts (valid_line cost) out put → Checks cost out st None
checks cost out put st e h = subst (λ z. Checks cost out z None) (sym e) (checks_by cost out put h)

-- a line that was put, or a first part of it
pub noted : {E : Type 0} (n : Taken) (piece line : List ℕ) (put : Result (Unit {0}) E) → piece ≡ line → OnOk put (n.after ≡ appended n.before piece) → OnErr put (TakesPart n.before n.after piece) → HasCause n.faults n.faults_after put →
    Receives n line ⊎ IsCut n line
noted n piece line (Ok done) e ok err cause = inl (subst (λ z. Receives n z) e ok)
noted n piece line (Err why) e ok err cause = inr (record { failed = cause.failed; part = subst (λ z. TakesPart n.before n.after z) e err })

-- the statuses that a refusal has
abbrev IsRefusing : Status → Type 0
IsRefusing status.Done = ⊥
IsRefusing status.WriteFault = ⊥
IsRefusing status.NoMemory = ⊥
IsRefusing other = Unit {0}

tells_refusing : (names : TextNames) (r : Inputs) (why : Status) (line : List ℕ) → Tells names r why line → IsRefusing why
tells_refusing names (inputs.Unread p missing) why line h = subst IsRefusing (sym h.0) tt
tells_refusing names (inputs.Refused p place cause) why line h = subst IsRefusing (sym h.0) tt
tells_refusing names (inputs.Over l count) why line h = subst IsRefusing (sym h.0) tt
tells_refusing names (inputs.Broken task b) why line h = subst IsRefusing (sym h.0) tt
tells_refusing names (inputs.Ready task plan cost) why line h = absurd h
tells_refusing names inputs.NoMemory why line h = absurd h

-- a refusal ends the run
module _ (words : List (List ℕ)) (tells : List ℕ → Told) (c : Counts) (out notes : Taken) (line : List ℕ) (silent : IsSilent out) (told : Receives notes line ⊎ IsCut notes line) where
  ended : (why : Status) → IsRefusal words tells c why line → IsRefused words tells c out notes why None
  ended why h = record { line = line; refusal = h; nothing = silent; noted = told; no_run = refl }

  pub refused_ends : (why : Status) → IsRefusal words tells c why line → Ends words tells c out notes why None
  refused_ends status.Done (inl h) = absurd h.holds.holds
  refused_ends status.Done (inr (inl h)) = absurd (tells_refusing h.names h.holds.result status.Done line h.holds.told)
  refused_ends status.Done (inr (inr h)) = absurd (tells_refusing h.holds.names h.holds.result status.Done line h.holds.told)
  refused_ends status.WriteFault (inl h) = absurd h.holds.holds
  refused_ends status.WriteFault (inr (inl h)) = absurd (tells_refusing h.names h.holds.result status.WriteFault line h.holds.told)
  refused_ends status.WriteFault (inr (inr h)) = absurd (tells_refusing h.holds.names h.holds.result status.WriteFault line h.holds.told)
  refused_ends status.NoMemory (inl h) = absurd h.holds.holds
  refused_ends status.NoMemory (inr (inl h)) = absurd (tells_refusing h.names h.holds.result status.NoMemory line h.holds.told)
  refused_ends status.NoMemory (inr (inr h)) = absurd (tells_refusing h.holds.names h.holds.result status.NoMemory line h.holds.told)
  refused_ends status.Usage h = ended status.Usage h
  refused_ends (status.PlanInvalid b) h = ended (status.PlanInvalid b) h
  refused_ends (status.TextRefused f place cause) h = ended (status.TextRefused f place cause) h
  refused_ends (status.ReadFault n missing) h = ended (status.ReadFault n missing) h
  refused_ends (status.OverLimit l count) h = ended (status.OverLimit l count) h
