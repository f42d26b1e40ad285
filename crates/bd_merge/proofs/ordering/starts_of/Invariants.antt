use Rattle.std.proofs.Common.{◌≡◌, ℕ, ◌<◌, length}
use Rattle.std.specs.Prelude.{slice_index}
use Rattle.bd_merge.specs.Starts.{IsStart}
use Rattle.bd_merge.proofs.ordering.starts_of.Given as goal

abbrev pub invariant-loop-j : goal.invariant-loop-j
invariant-loop-j l = record {
  many : length l.starts.items ≡ l.j;
  here : IsStart l.side l.places l.j l.q;
  at : (k : ℕ) → k < l.j → IsStart l.side l.places k (slice_index l.starts.items k);
}
