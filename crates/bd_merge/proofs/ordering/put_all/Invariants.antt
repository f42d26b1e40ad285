use Rattle.std.proofs.Common.{◌≡◌, ℕ, ◌≤◌, ◌||◌, length}
use Rattle.std.specs.Prelude.{slice_index}
use Rattle.bd_base.specs.Facts.{has}
use Rattle.bd_merge.specs.Starts.{RiseBetween, is_between, is_in_run}
use Rattle.bd_merge.proofs.ordering.put_all.Given as goal

abbrev pub invariant-loop-j : goal.invariant-loop-j
invariant-loop-j l = record {
  run : (l.from ≤ l.to) × (l.to ≤ l.olds);
  left : l.left ≡ length l.j-iterator;
  rest : RiseBetween 0 l.olds l.j-iterator;
  put : (q : ℕ) → ((has l.row q || is_in_run (slice_index l.starts l.from) (slice_index l.starts l.to) q) || is_between l.starts l.j-iterator q) ≡ (has l.initial.row q || is_between l.starts l.after q);
}
