-- How the run of a list of offers ends, from how they were made and from its summary.
use Rattle.std.proofs.Common.{◌≡◌, ◌⊎◌, inl, inr, ℕ, ◌≤◌, List, [], ◌∷◌, ◌++◌, length, Option, Some, None, Result, Ok, Err, IfErr, IfOk, if◌then◌else◌, refl, sym, ap, ◌∙◌, subst}
use Rattle.std.proofs.lemmas.List.{append-nil}
use Rattle.std.proofs.lemmas.Bool.{eq-eqb}
use Rattle.bd_base.specs.Causes.{TakesPart, appended}
use Rattle.bd_base.specs.Shelf.{Told}
use Rattle.bd_base.proofs.PutLemmas.{appended-append, TakesPart-after, TakesPart-longer}
use Rattle.bd_task.specs.TaskView.{TaskView}
use Rattle.plan_core.specs.Core.{CoreView, opened, accepted}
use Rattle.plan_core.specs.Law.{OpensOn, IsLawful}
use Rattle.plan_core.specs.declared.offer.Offer.{Offer}
use Rattle.plan_core.specs.declared.refusal.Refusal.{Refusal}
use Rattle.script_text.specs.declared.script.Script.{Script}
use Rattle.bd_pieces.specs.declared.pieces.End.TheVariants as end
use Rattle.run_texts.specs.declared.record.RunRecord.{RunRecord}
use Rattle.run_texts.specs.declared.putting.Stop.{Stop}
use Rattle.run_texts.specs.declared.putting.Stop.TheVariants as stop
use Rattle.bd_top.specs.declared.status.Status.{Status}
use Rattle.bd_top.specs.declared.status.Status.TheVariants as status
use Rattle.run_texts.specs.Texts.{betters_of, summary_of, closing_by, printed_of, noted_of, better_texts, reply_texts}
use Rattle.run_texts.specs.Taken.{Puts, Follows, FollowsPart, FollowsSo, Taken, Receives, ReceivesPart, HasFailed}
use Rattle.bd_top.specs.Replay.{Makes, IsCause}
use Rattle.task_inputs.specs.Reads.{Counts}
use Rattle.bd_top.specs.Prepared.{IsReady}
use Rattle.bd_top.specs.Run.{Ends, record_of, opening_of, IsRecorded, IsRunOf, Replays, Finishes, status_of}
use Rattle.run_texts.proofs.TakenLemmas.{rose_after, rose_before, whole_part}

finished_by : (done : Unit {0}) (run : RunRecord) (out : Taken) (why : Stop) (st : Status) (ended : Option RunRecord) → st ≡ status_of why → ended ≡ Some run → Puts (summary_of run) out (Err why) → Finishes (Ok done) run out st ended
finished_by done run out stop.WriteFault st ended e is h = subst (λ z. Finishes (Ok done) run out z ended) (sym e) (is, h)
finished_by done run out stop.NoMemory st ended e is h = subst (λ z. Finishes (Ok done) run out z ended) (sym e) (is, h)

pub finish_stop : (made : Result (Unit {0}) Stop) (done : Unit {0}) (run : RunRecord) (out : Taken) (why : Stop) (st : Status) (ended : Option RunRecord) → made ≡ Ok done → st ≡ status_of why → ended ≡ Some run →
    Puts (summary_of run) out (Err why) → Finishes made run out st ended
finish_stop made done run out why st ended ok e is h = subst (λ z. Finishes z run out st ended) (sym ok) (finished_by done run out why st ended e is h)

-- the run is kept, however it finishes
pub kept : (result : Result (Unit {0}) Stop) (r : RunRecord) (out : Taken) (st : Status) (e : Option RunRecord) → Finishes result r out st e → e ≡ Some r
kept (Ok done) r out status.Done e h = h.0
kept (Ok done) r out status.WriteFault e h = h.0
kept (Ok done) r out status.NoMemory e h = h.0
kept (Err stop.WriteFault) r out status.WriteFault e h = h.0
kept (Err stop.NoMemory) r out status.NoMemory e h = h.0
kept result r out st e h = absurd h

-- offers leave the task, the start tree and the stop number
makes_opens : (offers : List Offer) (replies : List (Result ℕ Refusal)) (core last : CoreView) → Makes core offers replies last → OpensOn core.task core.start core.stop last
makes_opens [] [] core last m = subst (λ z. OpensOn core.task core.start core.stop z) (sym m) (refl, refl, refl)
makes_opens [] (r ∷ rs) core last m = absurd m
makes_opens (o ∷ os) [] core last m = subst (λ z. OpensOn core.task core.start core.stop z) (sym m) (refl, refl, refl)
makes_opens (o ∷ os) (Ok place ∷ rs) core last m = makes_opens os rs (accepted o core) last m.2
makes_opens (o ∷ os) (Err why ∷ rs) core last m = makes_opens os rs core last m.2

-- what the making of the offers and the summary come to
module _ (core last : CoreView) (offers : List Offer) (replies : List (Result ℕ Refusal)) (t0 t1 t2 n0 n1 : Option (List ℕ)) (f0 f1 f2 g0 g1 : ℕ)
    (fresh : core.history ≡ []) (made : Makes core offers replies last) (lawful : IsLawful last) (later : f0 ≤ f1) (later' : f1 ≤ f2) where
  abbrev run : RunRecord
  run = record_of offers replies last

  abbrev out1 : Taken
  out1 = record { before = t0; after = t1; faults = f0; faults_after = f1 }

  abbrev out2 : Taken
  out2 = record { before = t1; after = t2; faults = f1; faults_after = f2 }

  abbrev out : Taken
  out = record { before = t0; after = t2; faults = f0; faults_after = f2 }

  abbrev notes : Taken
  notes = record { before = n0; after = n1; faults = g0; faults_after = g1 }

  opens : OpensOn core.task core.start core.stop last
  opens = makes_opens offers replies core last made

  is_run : IsRunOf core offers run
  is_run = record { last = last; recorded = refl; opens = opens; made = made; lawful = lawful }

  none : betters_of core ≡ []
  none = ap (better_texts core.task 0 (opened core.start)) fresh

  grown : (piece : List ℕ) → betters_of last ≡ betters_of core ++ piece → piece ≡ betters_of last
  grown piece e = sym (e ∙ ap (λ z. z ++ piece) none)

  noted : (piece : List ℕ) → reply_texts core.task 1 replies ≡ [] ++ piece → piece ≡ noted_of run
  noted piece e = sym (ap (λ (t : TaskView). reply_texts t 1 replies) opens.0 ∙ e)

  ended : length replies ≡ length offers → run.end ≡ Some end.Script
  ended same = ap (λ b. if b then Some end.Script else None) (eq-eqb (length replies) (length offers) same)

  printed : length replies ≡ length offers → printed_of run ≡ betters_of last ++ summary_of run
  printed same = ap (λ e. betters_of last ++ closing_by e (summary_of run)) (ended same)

  out_whole : Follows (betters_of core) (betters_of last) out1 → t1 ≡ appended t0 (betters_of last)
  out_whole h = h.received ∙ ap (appended t0) (grown h.piece h.grown)

  out_part : (rest : List ℕ) → FollowsPart (betters_of core) (betters_of last) out1 → TakesPart t0 t1 (betters_of last ++ rest)
  out_part rest h = TakesPart-longer t0 t1 (betters_of last) rest (subst (TakesPart t0 t1) (grown h.piece h.grown) h.received)

  notes_whole : Follows [] (reply_texts core.task 1 replies) notes → Receives notes (noted_of run)
  notes_whole h = h.received ∙ ap (appended n0) (noted h.piece h.grown)

  notes_part : FollowsPart [] (reply_texts core.task 1 replies) notes → ReceivesPart notes (noted_of run)
  notes_part h = subst (TakesPart n0 n1) (noted h.piece h.grown) h.received

  notes_some : Follows [] (reply_texts core.task 1 replies) notes → ReceivesPart notes (noted_of run)
  notes_some h = subst (TakesPart n0 n1) (append-nil (noted_of run)) (whole_part n0 n1 (noted_of run) [] (notes_whole h))

  failed_after : HasFailed out1 ⊎ HasFailed notes → HasFailed out ⊎ HasFailed notes
  failed_after (inl h) = inl (rose_after f0 f1 f2 later' h)
  failed_after (inr h) = inr h

  by_status : (result : Result (Unit {0}) Stop) (st : Status) → IfOk result (λ (u : Unit {0}). length replies ≡ length offers) → FollowsSo (betters_of core) (betters_of last) out1 result →
      FollowsSo [] (reply_texts core.task 1 replies) notes result → IfErr result (λ why. IsCause out1 notes why) → Finishes result run out2 st (Some run) → Replays core offers out notes st (Some run)
  by_status (Ok done) status.Done all o n c h =
      (is_run, ended all, h.1 ∙ ap (λ z. appended z (summary_of run)) (out_whole o) ∙ appended-append t0 (betters_of last) (summary_of run) ∙ ap (appended t0) (sym (printed all)), notes_whole n)
  by_status (Ok done) status.WriteFault all o n c h =
      (is_run, inl (rose_before f0 f1 f2 later h.1.failed), subst (TakesPart t0 t2) (sym (printed all)) (TakesPart-after t0 t1 t2 (betters_of last) (summary_of run) (out_whole o) h.1.part), notes_some n)
  by_status (Ok done) status.NoMemory all o n c h =
      (is_run, subst (λ z. TakesPart t0 z (printed_of run)) (sym h.1) (subst (TakesPart t0 t1) (sym (printed all)) (whole_part t0 t1 (betters_of last) (summary_of run) (out_whole o))), notes_some n)
  by_status (Err stop.WriteFault) status.WriteFault all o n c h =
      (is_run, failed_after c, subst (λ z. TakesPart t0 z (printed_of run)) (sym h.1) (out_part (closing_by run.end (summary_of run)) o), notes_part n)
  by_status (Err stop.NoMemory) status.NoMemory all o n c h =
      (is_run, subst (λ z. TakesPart t0 z (printed_of run)) (sym h.1) (out_part (closing_by run.end (summary_of run)) o), notes_part n)
  by_status result st all o n c h = absurd h

  pub replays : (result : Result (Unit {0}) Stop) (r : RunRecord) (st : Status) (e : Option RunRecord) → r ≡ record_of offers replies last → IfOk result (λ (u : Unit {0}). length replies ≡ length offers) →
      FollowsSo (betters_of core) (betters_of last) out1 result → FollowsSo [] (reply_texts core.task 1 replies) notes result → IfErr result (λ why. IsCause out1 notes why) → Finishes result r out2 st e →
      Replays core offers out notes st e
  replays result r st e is all o n c h =
      let same : e ≡ Some run = kept result r out2 st e h ∙ ap Some is in
      let done : Finishes result run out2 st (Some run) = subst (λ z. Finishes result run out2 st z) same (subst (λ z. Finishes result z out2 st e) is h) in
      subst (λ z. Replays core offers out notes st z) (sym same) (by_status result st all o n c done)

-- the same of a script that is ready
module _ (words : List (List ℕ)) (tells : List ℕ → Told) (c : Counts) (script : Script) (ready : IsReady words tells script) (out notes : Taken) where
  recorded : (run : RunRecord) → IsRunOf (opening_of script) script.offers run → IsRecorded words tells run
  recorded run is = record { script = script; ready = ready; is_run = is }

  pub ends : (st : Status) (e : Option RunRecord) → Replays (opening_of script) script.offers out notes st e → Ends words tells c out notes st e
  ends status.Done (Some run) h = inl (record { recorded = recorded run h.0; ended = h.1; printed = h.2; noted = h.3 })
  ends status.Done None h = absurd h
  ends status.WriteFault (Some run) h = inl (record { failed = h.1; partly = record { recorded = recorded run h.0; printed = h.2; noted = h.3 } })
  ends status.WriteFault None h = absurd h
  ends status.NoMemory (Some run) h = inl (record { recorded = recorded run h.0; printed = h.1; noted = h.2 })
  ends status.NoMemory None h = h
  ends other e h = absurd h
