use Rattle.std.proofs.Common.{◌≡◌, ℕ, None, length, get_or}
use Rattle.plan_calls.proofs.resolving.no_places.Given as goal

abbrev pub invariant-loop-k : goal.invariant-loop-k
invariant-loop-k l = (length l.places.items ≡ l._k) × ((k : ℕ) → get_or l.places.items k None ≡ None)
