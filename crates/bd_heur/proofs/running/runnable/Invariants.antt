use Rattle.std.proofs.Common.{◌≡◌, ℕ, true, ◌⊎◌}
use Rattle.bd_base.specs.Facts.{has}
use Rattle.bd_heur.specs.Index.{row_at, IsRunnable}
use Rattle.bd_heur.proofs.running.runnable.Given as goal

abbrev pub invariant-loop-f : goal.invariant-loop-f
invariant-loop-f l = record {
  of_free : (x : ℕ) → IsRunnable l.task l.s x → has l.index.free.items x ≡ true → has l.items.items x ≡ true;
  each : (q x : ℕ) → has l.s q ≡ true → IsRunnable l.task l.s x → has (row_at l.index.needers.items q) x ≡ true → (has l.f-iterator q ≡ true) ⊎ (has l.items.items x ≡ true);
}
