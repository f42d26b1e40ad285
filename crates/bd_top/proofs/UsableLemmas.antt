-- Each text of a recorded run may be asked for.
use Rattle.std.proofs.Common.{◌≡◌, ℕ, List, [], ◌∷◌, length, Option, Some, None, Result, Ok, Err, IfSome, inl, inr, sym, subst}
use Rattle.bd_base.specs.Shelf.{Told}
use Rattle.bd_task.specs.TaskView.{TaskView}
use Rattle.plan_core.specs.Core.{CoreView, accepted}
use Rattle.plan_core.specs.declared.offer.Offer.{Offer}
use Rattle.plan_core.specs.declared.refusal.Refusal.{Refusal}
use Rattle.run_texts.specs.declared.record.RunRecord.{RunRecord}
use Rattle.bd_top.specs.declared.status.Status.{Status}
use Rattle.bd_top.specs.declared.status.Status.TheVariants as status
use Rattle.task_inputs.specs.Reads.{Counts}
use Rattle.bd_top.specs.Deorder.{IsDeorderRun}
use Rattle.bd_top.specs.Bench.{IsBenchRun}
use Rattle.bd_top.specs.Improve.{IsImproveRun}
use Rattle.bd_top.specs.Replay.{Makes}
use Rattle.bd_top.specs.Run.{Ends, IsRunOf, IsRecorded, IsUsable, AreTold}
use Rattle.run_texts.specs.Taken.{Taken}

told_by : (offers : List Offer) (replies : List (Result ℕ Refusal)) (core last : CoreView) → Makes core offers replies last → AreTold (length core.task.facts) replies
told_by offers [] core last m = tt
told_by [] (r ∷ rs) core last m = absurd m
told_by (o ∷ os) (Ok place ∷ rs) core last m = (m.0, told_by os rs (accepted o core) last m.2)
told_by (o ∷ os) (Err why ∷ rs) core last m = (m.0, told_by os rs core last m.2)

of_run : (core : CoreView) (offers : List Offer) (run : RunRecord) → IsRunOf core offers run → IsUsable run
of_run core offers run is = subst IsUsable (sym is.recorded) (record {
  start = is.lawful.printable_at 0;
  tree = is.lawful.printable;
  trees = is.lawful.printable_at;
  told = subst (λ (t : TaskView). AreTold (length t.facts) run.replies) (sym is.opens.0) (told_by offers run.replies core is.last is.made);
})

of_recorded : (words : List (List ℕ)) (tells : List ℕ → Told) (run : RunRecord) → IsRecorded words tells run → IsUsable run
of_recorded words tells run h = of_run _ h.script.offers run h.is_run

of_deordered : (words : List (List ℕ)) (tells : List ℕ → Told) (run : RunRecord) → IsDeorderRun words tells run → IsUsable run
of_deordered words tells run h = subst IsUsable (sym h.loosens.recorded) (record {
  start = h.loosens.loosened.lawful.printable_at 0;
  tree = h.loosens.loosened.lawful.printable;
  trees = h.loosens.loosened.lawful.printable_at;
  told = tt;
})

of_improved : (words : List (List ℕ)) (tells : List ℕ → Told) (run : RunRecord) → IsImproveRun words tells run → IsUsable run
of_improved words tells run h = subst IsUsable (sym h.improves.recorded) (record {
  start = h.improves.improved.lawful.printable_at 0;
  tree = h.improves.improved.lawful.printable;
  trees = h.improves.improved.lawful.printable_at;
  told = tt;
})

of_benched : (words : List (List ℕ)) (run : RunRecord) → IsBenchRun words run → IsUsable run
of_benched words run h = subst IsUsable (sym h.improves.recorded) (record {
  start = h.improves.improved.lawful.printable_at 0;
  tree = h.improves.improved.lawful.printable;
  trees = h.improves.improved.lawful.printable_at;
  told = tt;
})

without : (run : Option RunRecord) → run ≡ None → IfSome run IsUsable
without run none = subst (λ z. IfSome z IsUsable) (sym none) tt

pub usable : (words : List (List ℕ)) (tells : List ℕ → Told) (c : Counts) (out notes : Taken) (why : Status) (run : Option RunRecord) → Ends words tells c out notes why run → IfSome run IsUsable
usable words tells c out notes status.Done (Some run) (inl h) = of_recorded words tells run h.recorded
usable words tells c out notes status.Done (Some run) (inr (inl h)) = of_deordered words tells run h.is_run
usable words tells c out notes status.Done (Some run) (inr (inr (inl h))) = of_improved words tells run h.is_run
usable words tells c out notes status.Done (Some run) (inr (inr (inr h))) = of_benched words run h.is_run
usable words tells c out notes status.WriteFault (Some run) (inl h) = of_recorded words tells run h.partly.recorded
usable words tells c out notes status.WriteFault (Some run) (inr (inl h)) = of_deordered words tells run h.is_run
usable words tells c out notes status.WriteFault (Some run) (inr (inr (inl h))) = of_improved words tells run h.is_run
usable words tells c out notes status.WriteFault (Some run) (inr (inr (inr h))) = of_benched words run h.is_run
usable words tells c out notes status.NoMemory (Some run) (inl h) = of_recorded words tells run h.recorded
usable words tells c out notes status.NoMemory (Some run) (inr (inl h)) = of_deordered words tells run h.is_run
usable words tells c out notes status.NoMemory (Some run) (inr (inr (inl h))) = of_improved words tells run h.is_run
usable words tells c out notes status.NoMemory (Some run) (inr (inr (inr h))) = of_benched words run h.is_run
usable words tells c out notes status.Done None h = tt
usable words tells c out notes status.WriteFault None h = tt
usable words tells c out notes status.NoMemory None h = tt
usable words tells c out notes (status.PlanInvalid b) run h = without run h.no_run
usable words tells c out notes status.Usage run h = without run h.no_run
usable words tells c out notes (status.TextRefused file place cause) run h = without run h.no_run
usable words tells c out notes (status.ReadFault n missing) run h = without run h.no_run
usable words tells c out notes (status.OverLimit l count) run h = without run h.no_run
