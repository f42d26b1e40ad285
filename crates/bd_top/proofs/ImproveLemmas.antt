-- How the command `improve` ends, and what is known of the task that it is given.
use Rattle.std.proofs.Common.{◌≡◌, ℕ, ◌≤◌, Bool, true, false, cond, nat_lt, List, [], length, Option, Some, None, Result, Ok, Err, refl, sym, ap, ◌∙◌, subst, inl, inr}
use Rattle.std.proofs.lemmas.Bool.{cases_lt, lt-ltb}
use Rattle.std.proofs.lemmas.List.{length-map}
use Rattle.bd_base.specs.Causes.{TakesPart, appended}
use Rattle.bd_base.specs.Shelf.{Told}
use Rattle.bd_base.proofs.PutLemmas.{appended-append, TakesPart-after, TakesPart-longer}
use Rattle.bd_task.specs.TaskView.{TaskView}
use Rattle.bd_ground.specs.Task.{fact_atoms}
use Rattle.bd_pieces.specs.declared.pieces.End.{End}
use Rattle.bd_pieces.specs.declared.pieces.End.TheVariants as end
use Rattle.bd_pieces.specs.declared.pieces.Piece.{Piece}
use Rattle.bd_workers.specs.Turn.{IsOver}
use Rattle.command_words.specs.declared.request.Numbers.{Numbers}
use Rattle.plan_core.specs.Core.{CoreView}
use Rattle.plan_improve.specs.Improved.{EndsSo, IsImproved, TellsBetter}
use Rattle.pddl_types.specs.declared.domains.Domain.{Domain}
use Rattle.pddl_types.specs.declared.problems.Problem.{Problem}
use Rattle.run_texts.specs.Taken.{Taken, IsSilent}
use Rattle.run_texts.specs.Texts.{betters_of, printed_of, summary_of}
use Rattle.run_texts.specs.declared.putting.Stop.{Stop}
use Rattle.run_texts.specs.declared.putting.Stop.TheVariants as stop
use Rattle.run_texts.specs.declared.record.RunRecord.{RunRecord}
use Rattle.run_texts.proofs.TakenLemmas.{rose_after, rose_before, whole_part}
use Rattle.task_inputs.specs.Inputs.{ground_over, IsValidPlan}
use Rattle.task_inputs.specs.Reads.{Counts}
use Rattle.task_inputs.proofs.Laws.{ready_texts}
use Rattle.bd_top.specs.declared.purpose.Purpose.TheVariants as purpose
use Rattle.bd_top.specs.declared.status.Status.{Status}
use Rattle.bd_top.specs.declared.status.Status.TheVariants as status
use Rattle.bd_top.specs.Improve.{EndsAs, Improves, IsImproveRun, TellsImproved, improved_record, pieces_told, setup_of}
use Rattle.bd_top.specs.Prepared.{LeadToTask, NamesTexts}
use Rattle.bd_top.specs.Run.{Ends, Finishes}
use Rattle.bd_top.specs.Words.{purpose_asked}
use Rattle.bd_top.proofs.DeorderLemmas.{plan_checked}
use Rattle.bd_top.proofs.EndLemmas.{kept}

-- where nothing passes a limit, the second count doesn't
second : {A : Type 0} (b : Bool) (x : A) (o : Option A) → cond b (Some x) o ≡ None → o ≡ None
second true x o e = absurd cc
second false x o e = e

first_false : {A : Type 0} (b : Bool) (x : A) (o : Option A) → cond b (Some x) o ≡ None → b ≡ true → ⊥
first_false true x o e is = cc
first_false false x o e is = cc

few_atoms : (d : Domain) (p : Problem) → ground_over d p ≡ None → length (fact_atoms d p) ≤ 262_144
few_atoms d p e = elim (cases_lt 262_144 (length (fact_atoms d p)))
    [ inl more ↦ absurd (first_false (nat_lt 262_144 (length (fact_atoms d p))) _ None (second _ _ _ e) (lt-ltb 262_144 (length (fact_atoms d p)) more)) | inr few ↦ few ]

pub few_facts : (d p q : List ℕ) (task : TaskView) (list : List ℕ) → IsValidPlan d p q task list → length task.facts ≤ 262_144
few_facts d p q task list v =
    subst (λ (t : TaskView). length t.facts ≤ 262_144) (sym v.grounded) (subst (λ n. n ≤ 262_144) (sym (length-map (fact_atoms v.d v.p) _)) (few_atoms v.d v.p v.few_ground))

module _ (words : List (List ℕ)) (tells : List ℕ → Told) (c : Counts) (task : TaskView) (plan : List ℕ) (h : NamesTexts words (λ names. LeadToTask names tells c task plan)) where
  pub facts_few : length task.facts ≤ 262_144
  facts_few =
      let r = ready_texts task plan h.holds.cost (tells h.names.domain) (tells h.names.problem) (tells h.names.plan) c h.holds.leads in
      few_facts r.d r.p r.q task plan r.valid

  module _ (numbers : Numbers) (asked : purpose_asked words ≡ Some (purpose.Improve numbers)) (out notes : Taken) (silent : IsSilent notes) where
    improve_run : (run : RunRecord) → Improves task plan numbers run → IsImproveRun words tells run
    improve_run run i = record { numbers = numbers; asked = asked; cost = h.holds.cost; checked = plan_checked words tells c task plan h; improves = i }

    pub ends_improved : (st : Status) (run : Option RunRecord) → TellsImproved task plan numbers out st run → Ends words tells c out notes st run
    ends_improved status.Done (Some run) t =
        inr (inr (inl (record { is_run = record { numbers = numbers; asked = asked; cost = h.holds.cost; checked = plan_checked words tells c task plan h; improves = t.0.0 }; over = t.0.1; printed = t.1; noted = silent })))
    ends_improved status.WriteFault (Some run) t = inr (inr (inl (record { is_run = improve_run run t.0; printed = t.1; noted = silent })))
    ends_improved status.NoMemory (Some run) t = inr (inr (inl (record { is_run = improve_run run t.0; printed = t.1; noted = silent })))
    ends_improved status.NoMemory None t = (t, silent)
    ends_improved st run t = absurd t

-- the pieces that are told of a run that ended
module _ (numbers : Numbers) (core : CoreView) (pieces : List Piece) where
  pub over_told : (e : End) → IsOver (setup_of numbers) core pieces (Some e) → IsOver (setup_of numbers) core (pieces_told (Some e) pieces) (Some e)
  over_told end.Dry over = over
  over_told end.Closed over = over
  over_told end.Script over = absurd over
  over_told end.Tight over = absurd over

  pub ends_told : (e : End) → IsOver (setup_of numbers) core pieces (Some e) → EndsAs (setup_of numbers) core (pieces_told (Some e) pieces) (Some e)
  ends_told end.Dry over = over
  ends_told end.Closed over = (over, refl)
  ends_told end.Script over = absurd over
  ends_told end.Tight over = absurd over

-- the better plans of turns, and then the summary
module _ (task : TaskView) (list : List ℕ) (numbers : Numbers) (core : CoreView) (pieces : List Piece) (t0 t1 t2 : Option (List ℕ)) (f0 f1 f2 : ℕ) (improved : IsImproved task list numbers.stop core) (later : f0 ≤ f1) (later' : f1 ≤ f2) where
  abbrev first : Taken
  first = record { before = t0; after = t1; faults = f0; faults_after = f1 }

  abbrev second_part : Taken
  second_part = record { before = t1; after = t2; faults = f1; faults_after = f2 }

  abbrev both : Taken
  both = record { before = t0; after = t2; faults = f0; faults_after = f2 }

  abbrev run_to : Option End → RunRecord
  run_to told = improved_record core (pieces_told told pieces) told

  improves : (told : Option End) → EndsAs (setup_of numbers) core (pieces_told told pieces) told → Improves task list numbers (run_to told)
  improves told e = record { core = core; recorded = refl; improved = improved; ends = e }

  ended : (told : Option End) (st : Status) → IsOver (setup_of numbers) core pieces told → t1 ≡ appended t0 (betters_of core) → Finishes (Ok tt) (run_to told) second_part st (Some (run_to told)) →
      TellsImproved task list numbers both st (Some (run_to told))
  ended None st over b f = absurd over
  ended (Some e) status.Done over b f =
      ((record { core = core; recorded = refl; improved = improved; ends = ends_told numbers core pieces e over }, over_told numbers core pieces e over), f.1 ∙ ap (λ z. appended z (summary_of (run_to (Some e)))) b ∙ appended-append t0 (betters_of core) (summary_of (run_to (Some e))))
  ended (Some e) status.WriteFault over b f =
      (improves (Some e) (ends_told numbers core pieces e over), record { failed = rose_before f0 f1 f2 later f.1.failed; part = TakesPart-after t0 t1 t2 (betters_of core) (summary_of (run_to (Some e))) b f.1.part })
  ended (Some e) status.NoMemory over b f =
      (improves (Some e) (ends_told numbers core pieces e over), subst (λ z. TakesPart t0 z (printed_of (run_to (Some e)))) (sym f.1) (whole_part t0 t1 (betters_of core) (summary_of (run_to (Some e))) b))
  ended (Some e) st over b f = absurd f

  stopped : (why : Stop) (told : Option End) (st : Status) → told ≡ None → pieces ≡ [] → TellsBetter core first (Err why) → Finishes (Err why) (run_to told) second_part st (Some (run_to told)) →
      TellsImproved task list numbers both st (Some (run_to told))
  stopped why (Some e) st none empty b f = absurd cc
  stopped stop.WriteFault None status.WriteFault none empty b f =
      (improves None refl, record { failed = rose_after f0 f1 f2 later' b.failed; part = subst (λ z. TakesPart t0 z (printed_of (run_to None))) (sym f.1) (TakesPart-longer t0 t1 (betters_of core) [] b.part) })
  stopped stop.NoMemory None status.NoMemory none empty b f =
      (improves None refl, subst (λ z. TakesPart t0 z (printed_of (run_to None))) (sym f.1) (TakesPart-longer t0 t1 (betters_of core) [] b))
  stopped why None st none empty b f = absurd f

  by_made : (made : Result (Unit {0}) Stop) (told : Option End) (st : Status) → EndsSo (setup_of numbers) core pieces told made → TellsBetter core first made → Finishes made (run_to told) second_part st (Some (run_to told)) →
      TellsImproved task list numbers both st (Some (run_to told))
  by_made (Ok done) told st ends b f = ended told st ends b f
  by_made (Err why) told st ends b f = stopped why told st ends.0 ends.1 b f

  pub tells_improved : (made : Result (Unit {0}) Stop) (told : Option End) (run : RunRecord) (st : Status) (e : Option RunRecord) → run ≡ improved_record core (pieces_told told pieces) told → EndsSo (setup_of numbers) core pieces told made →
      TellsBetter core first made → Finishes made run second_part st e → TellsImproved task list numbers both st e
  tells_improved made told run st e is ends b f =
      let same : e ≡ Some (run_to told) = kept made run second_part st e f ∙ ap Some is in
      subst (λ z. TellsImproved task list numbers both st z) (sym same) (by_made made told st ends b (subst (λ z. Finishes made (run_to told) second_part st z) same (subst (λ z. Finishes made z second_part st e) is f)))
