use Rattle.std.proofs.Common.{◌≡◌, ℕ, true, ◌⊎◌, drop}
use Rattle.bd_base.specs.Facts.{has}
use Rattle.bd_heur.specs.Index.{IsRunnable}
use Rattle.bd_heur.proofs.running.push_row.Given as goal

abbrev pub invariant-loop-a : goal.invariant-loop-a
invariant-loop-a l = record {
  kept : (x : ℕ) → has l.initial.items.items x ≡ true → has l.items.items x ≡ true;
  pushed : (x : ℕ) → IsRunnable l.task l.s x → has l.row x ≡ true → (has (drop l.a-index l.row) x ≡ true) ⊎ (has l.items.items x ≡ true);
}
