-- What is prepared of generated texts, how the command `bench` ends, and that each status comes exactly where its cause stands.
use Rattle.std.proofs.Common.{◌≡◌, ◌⊎◌, inl, inr, ℕ, List, [], Option, Some, None, Result, Ok, Err, refl, sym, ap, ◌∙◌, subst}
use Rattle.bd_base.specs.Shelf.{Told}
use Rattle.bd_base.specs.declared.text_err.Cause.{Cause}
use Rattle.bd_gen.specs.Errands.{plan_of, problem_of}
use Rattle.bd_gen.specs.declared.sample.TheConstants.{DOMAIN}
use Rattle.bd_task.specs.TaskView.{TaskView}
use Rattle.bd_task.specs.Valid.{cost_of}
use Rattle.bd_pieces.specs.declared.pieces.End.{End}
use Rattle.bd_pieces.specs.declared.pieces.Piece.{Piece}
use Rattle.bd_workers.specs.Turn.{IsOver}
use Rattle.plan_core.specs.Core.{CoreView}
use Rattle.plan_improve.specs.Improved.{EndsSo, IsImproved}
use Rattle.run_texts.specs.Taken.{Taken, IsSilent, HasFailed}
use Rattle.run_texts.specs.declared.putting.Stop.{Stop}
use Rattle.run_texts.specs.declared.putting.Stop.TheVariants as stop
use Rattle.run_texts.specs.declared.record.RunRecord.{RunRecord}
use Rattle.seq_check.specs.declared.judging.Broken.{Broken}
use Rattle.task_inputs.specs.Inputs.{outcome, Unless}
use Rattle.task_inputs.specs.Reads.{Counts}
use Rattle.task_inputs.specs.declared.answers.Inputs.{Inputs}
use Rattle.task_inputs.specs.declared.answers.Inputs.TheVariants as inputs
use Rattle.task_inputs.proofs.ValidLemmas.{valid_plans_law}
use Rattle.command_words.specs.Asked.{Names as TextNames}
use Rattle.bd_top.specs.Bench.{IsBenchRun, TellsSummary, default_numbers}
use Rattle.bd_top.specs.Improve.{EndsAs, Improves, improved_record, pieces_told, setup_of}
use Rattle.bd_top.specs.Plans.{IsErrandsPlan, errands_outcome}
use Rattle.bd_top.specs.Prepared.{AsksErrands, IsErrandsRefusal, IsNamedRefusal, IsPreparedOf, IsRefusal, IsTextsRefusal, Names, NamesTexts, PreparesErrands, Tells}
use Rattle.bd_top.specs.Run.{BreaksFirst, Ends, Finishes, HasValidPlan, HasWriteFault, IsDoneOrNoMemory, IsExactBench, IsExactFor, IsFaultless, IsFirstFault}
use Rattle.bd_top.specs.Words.{errands_asked, script_named, texts_named}
use Rattle.bd_top.specs.declared.prepare.Prepared.{Prepared}
use Rattle.bd_top.specs.declared.prepare.Prepared.TheVariants as prepared
use Rattle.bd_top.specs.declared.purpose.Purpose.TheVariants as purpose
use Rattle.bd_top.specs.declared.status.File.{File}
use Rattle.bd_top.specs.declared.status.Status.{Status}
use Rattle.bd_top.specs.declared.status.Status.TheVariants as status
use Rattle.bd_top.proofs.CheckLemmas.{broken_exact, broken_result, refused_exact, refused_result, valid_exact, valid_outcome}
use Rattle.bd_top.proofs.CommandLemmas.{errands_no_script, errands_no_texts}
use Rattle.bd_top.proofs.EndLemmas.{kept}
use Rattle.bd_top.proofs.ImproveLemmas.{ends_told, over_told}

-- what is prepared of generated texts

pub ready_errands : (size : ℕ) (task : TaskView) (plan : List ℕ) (cost : ℕ) → errands_outcome size ≡ inputs.Ready task plan cost → IsErrandsPlan size task plan
ready_errands size task plan cost e = ((valid_plans_law DOMAIN.now (problem_of size) (plan_of size) task plan cost).0 e).0

pub other_errands : (size : ℕ) (names : TextNames) (result : Inputs) (p : Prepared) → ((task : TaskView) (plan : List ℕ) (cost : ℕ) → result ≡ inputs.Ready task plan cost → ⊥) → Unless result (errands_outcome size ≡ result) →
    IsPreparedOf purpose.Check names result p → PreparesErrands size p
other_errands size names (inputs.Ready task plan cost) p not h is = absurd (not task plan cost refl)
other_errands size names (inputs.Unread part missing) (prepared.Refused why line) not h is = record { result = inputs.Unread part missing; leads = h; names = names; told = is }
other_errands size names (inputs.Refused part place cause) (prepared.Refused why line) not h is = record { result = inputs.Refused part place cause; leads = h; names = names; told = is }
other_errands size names (inputs.Over l count) (prepared.Refused why line) not h is = record { result = inputs.Over l count; leads = h; names = names; told = is }
other_errands size names (inputs.Broken task b) (prepared.Refused why line) not h is = record { result = inputs.Broken task b; leads = h; names = names; told = is }
other_errands size names result prepared.NoMemory not h is = tt
other_errands size names result p not h is = absurd is

-- the improving of a list, and its summary
module _ (task : TaskView) (list : List ℕ) (core : CoreView) (pieces : List Piece) (out : Taken) (improved : IsImproved task list default_numbers.stop core) where
  abbrev run_to : Option End → RunRecord
  run_to told = improved_record core (pieces_told told pieces) told

  improves : (told : Option End) → EndsAs (setup_of default_numbers) core (pieces_told told pieces) told → Improves task list default_numbers (run_to told)
  improves told e = record { core = core; recorded = refl; improved = improved; ends = e }

  ended : (told : Option End) (st : Status) → IsOver (setup_of default_numbers) core pieces told → Finishes (Ok tt) (run_to told) out st (Some (run_to told)) → TellsSummary task list out st (Some (run_to told))
  ended None st over f = absurd over
  ended (Some e) status.Done over f =
      ((record { core = core; recorded = refl; improved = improved; ends = ends_told default_numbers core pieces e over }, over_told default_numbers core pieces e over), f.1)
  ended (Some e) status.WriteFault over f =
      ((record { core = core; recorded = refl; improved = improved; ends = ends_told default_numbers core pieces e over }, over_told default_numbers core pieces e over), f.1)
  ended (Some e) status.NoMemory over f = (improves (Some e) (ends_told default_numbers core pieces e over), f.1)
  ended (Some e) st over f = absurd f

  stopped : (told : Option End) (st : Status) → told ≡ None → Finishes (Err stop.NoMemory) (run_to told) out st (Some (run_to told)) → TellsSummary task list out st (Some (run_to told))
  stopped (Some e) st none f = absurd cc
  stopped None status.NoMemory none f = (improves None refl, f.1)
  stopped None st none f = absurd f

  by_made : (made : Result (Unit {0}) Stop) (told : Option End) (st : Status) → EndsSo (setup_of default_numbers) core pieces told made → (made ≡ Err stop.WriteFault → ⊥) → Finishes made (run_to told) out st (Some (run_to told)) →
      TellsSummary task list out st (Some (run_to told))
  by_made (Ok done) told st ends never f = ended told st ends f
  by_made (Err stop.NoMemory) told st ends never f = stopped told st ends.0 f
  by_made (Err stop.WriteFault) told st ends never f = absurd (never refl)

  pub tells_summary : (made : Result (Unit {0}) Stop) (told : Option End) (run : RunRecord) (st : Status) (e : Option RunRecord) → run ≡ run_to told → EndsSo (setup_of default_numbers) core pieces told made →
      (made ≡ Err stop.WriteFault → ⊥) → Finishes made run out st e → TellsSummary task list out st e
  tells_summary made told run st e is ends never f =
      let same : e ≡ Some (run_to told) = kept made run out st e f ∙ ap Some is in
      subst (λ z. TellsSummary task list out st z) (sym same) (by_made made told st ends never (subst (λ z. Finishes made (run_to told) out st z) same (subst (λ z. Finishes made z out st e) is f)))

-- how the command ends
module _ (words : List (List ℕ)) (tells : List ℕ → Told) (c : Counts) (task : TaskView) (plan : List ℕ) (h : AsksErrands words (λ size. IsErrandsPlan size task plan)) (out notes : Taken) (silent : IsSilent notes) where
  bench_run : (run : RunRecord) → Improves task plan default_numbers run → IsBenchRun words run
  bench_run run i = record { size = h.size; asked = h.asked; task = task; list = plan; valid = h.holds; improves = i }

  pub ends_benched : (st : Status) (run : Option RunRecord) → TellsSummary task plan out st run → Ends words tells c out notes st run
  ends_benched status.Done (Some run) t = inr (inr (inr (record { is_run = record { size = h.size; asked = h.asked; task = task; list = plan; valid = h.holds; improves = t.0.0 }; over = t.0.1; printed = t.1; noted = silent })))
  ends_benched status.WriteFault (Some run) t = inr (inr (inr (record { is_run = record { size = h.size; asked = h.asked; task = task; list = plan; valid = h.holds; improves = t.0.0 }; over = t.0.1; printed = t.1; noted = silent })))
  ends_benched status.NoMemory (Some run) t = inr (inr (inr (record { is_run = bench_run run t.0; nothing = t.1; noted = silent })))
  ends_benched status.NoMemory None t = (t, silent)
  ends_benched st run t = absurd t

-- each status comes exactly where its cause stands
same_size : (o : Option ℕ) (m n : ℕ) → o ≡ Some m → o ≡ Some n → m ≡ n
same_size o m n e h = cc

module _ (words : List (List ℕ)) where
  abbrev ExactAt : Status → ℕ → Type 0
  ExactAt why size = IsExactFor DOMAIN.now (problem_of size) (plan_of size) why

  at_size : (why : Status) (size : ℕ) → errands_asked words ≡ Some size → ExactAt why size → IsExactBench words why
  at_size why size asked h = λ other also. subst (λ z. ExactAt why z) (same_size (errands_asked words) size other asked also) h

  pub bench_done : (run : RunRecord) → IsBenchRun words run → IsExactBench words status.Done
  bench_done run h = at_size status.Done h.size h.asked (valid_exact DOMAIN.now (problem_of h.size) (plan_of h.size) h.task h.list h.valid)

  pub bench_invalid : (b : Broken) (line : List ℕ) → AsksErrands words (λ size. IsErrandsRefusal size (status.PlanInvalid b) line) → IsExactBench words (status.PlanInvalid b)
  bench_invalid b line h =
      let r = broken_result h.holds.names h.holds.result b line h.holds.told in
      at_size (status.PlanInvalid b) h.size h.asked (broken_exact DOMAIN.now (problem_of h.size) (plan_of h.size) b (record { task = r.0; leads = h.holds.leads ∙ r.1 }))

  pub bench_refused : (f : File) (place : ℕ) (cause : Cause) (line : List ℕ) → AsksErrands words (λ size. IsErrandsRefusal size (status.TextRefused f place cause) line) → IsExactBench words (status.TextRefused f place cause)
  bench_refused f place cause line h =
      let r = refused_result h.holds.names h.holds.result f place cause line h.holds.told in
      at_size (status.TextRefused f place cause) h.size h.asked (refused_exact DOMAIN.now (problem_of h.size) (plan_of h.size) f place cause (record { part = r.0; of_part = r.1; leads = h.holds.leads ∙ r.2 }))

-- a valid plan is improved, where nothing outside fails
some_none : (o : Option ℕ) (m : ℕ) → o ≡ Some m → o ≡ None → ⊥
some_none o m e h = cc

module _ (words : List (List ℕ)) (tells : List ℕ → Told) (size : ℕ) (asked : errands_asked words ≡ Some size) (good : HasValidPlan DOMAIN.now (problem_of size) (plan_of size)) (c : Counts) where
  ready : errands_outcome size ≡ inputs.Ready good.task good.list (cost_of good.task good.list)
  ready = valid_outcome DOMAIN.now (problem_of size) (plan_of size) good.task good.list good.valid

  no_tell : (names : TextNames) (r : Inputs) (why : Status) (line : List ℕ) → r ≡ inputs.Ready good.task good.list (cost_of good.task good.list) → Tells names r why line → ⊥
  no_tell names r why line e h = subst (λ z. Tells names z why line) e h

  of_errands : (other : ℕ) (why : Status) (line : List ℕ) → size ≡ other → IsErrandsRefusal other why line → ⊥
  of_errands other why line e h = no_tell h.names h.result why line (sym (ap errands_outcome e ∙ h.leads) ∙ ready) h.told

  of_name : (why : Status) (line : List ℕ) → Names words (λ name. IsNamedRefusal name (tells name) c why line) ⊎ NamesTexts words (λ names. IsTextsRefusal names tells c why line) ⊎ AsksErrands words (λ n. IsErrandsRefusal n why line) → ⊥
  of_name why line (inl h) = errands_no_script words size asked h.name h.named
  of_name why line (inr (inl h)) = errands_no_texts words size asked h.names h.named
  of_name why line (inr (inr h)) = of_errands h.size why line (same_size (errands_asked words) size h.size asked h.asked) h.holds

  no_refusal : (why : Status) (line : List ℕ) → IsRefusal words tells c why line → ⊥
  no_refusal status.Usage line h = some_none (errands_asked words) size asked h.2
  no_refusal status.Done line h = of_name status.Done line h
  no_refusal (status.PlanInvalid b) line h = of_name (status.PlanInvalid b) line h
  no_refusal (status.TextRefused f place cause) line h = of_name (status.TextRefused f place cause) line h
  no_refusal (status.ReadFault n missing) line h = of_name (status.ReadFault n missing) line h
  no_refusal status.WriteFault line h = of_name status.WriteFault line h
  no_refusal (status.OverLimit l count) line h = of_name (status.OverLimit l count) line h
  no_refusal status.NoMemory line h = of_name status.NoMemory line h

  failed : (out notes : Taken) → IsFaultless out.faults out.faults_after → IsFaultless notes.faults notes.faults_after → HasFailed out ⊎ HasFailed notes → ⊥
  failed out notes quiet still (inl h) = quiet h
  failed out notes quiet still (inr h) = still h

  no_fault : (out notes : Taken) (run : Option RunRecord) → IsFaultless out.faults out.faults_after → IsFaultless notes.faults notes.faults_after → HasWriteFault words tells out notes run → ⊥
  no_fault out notes None quiet still h = quiet h.printed.failed
  no_fault out notes (Some run) quiet still (inl h) = failed out notes quiet still h.failed
  no_fault out notes (Some run) quiet still (inr (inl h)) = quiet h.printed.failed
  no_fault out notes (Some run) quiet still (inr (inr (inl h))) = quiet h.printed.failed
  no_fault out notes (Some run) quiet still (inr (inr (inr h))) = quiet h.printed.failed

  pub benched : (out notes : Taken) (why : Status) (run : Option RunRecord) → IsFaultless out.faults out.faults_after → IsFaultless notes.faults notes.faults_after →
      Ends words tells c out notes why run → IsDoneOrNoMemory why
  benched out notes status.Done run quiet still h = tt
  benched out notes status.NoMemory run quiet still h = tt
  benched out notes status.WriteFault run quiet still h = no_fault out notes run quiet still h
  benched out notes status.Usage run quiet still h = no_refusal status.Usage h.line h.refusal
  benched out notes (status.PlanInvalid b) run quiet still h = no_refusal (status.PlanInvalid b) h.line h.refusal
  benched out notes (status.TextRefused f place cause) run quiet still h = no_refusal (status.TextRefused f place cause) h.line h.refusal
  benched out notes (status.ReadFault n missing) run quiet still h = no_refusal (status.ReadFault n missing) h.line h.refusal
  benched out notes (status.OverLimit l count) run quiet still h = no_refusal (status.OverLimit l count) h.line h.refusal
