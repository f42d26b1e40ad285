use Rattle.std.proofs.Common.{◌≡◌, ℕ, ◌<◌, true}
use Rattle.std.specs.Prelude.{slice_get}
use Rattle.bd_merge.specs.Starts.{is_passed}
use Rattle.bd_merge.specs.declared.ordering.Side.TheVariants.{Behind}
use Rattle.bd_merge.proofs.ordering.first_behind.Given as goal

abbrev pub invariant-loop-place : goal.invariant-loop-place
invariant-loop-place l = (l.q ≡ l.place-index) × ((p : ℕ) → p < l.q → is_passed Behind 0 (slice_get l.places p) ≡ true)
