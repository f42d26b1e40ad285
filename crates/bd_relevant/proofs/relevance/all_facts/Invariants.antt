use Rattle.std.specs.Prelude.{◌≡◌, ℕ, ◌<◌, true}
use Rattle.bd_base.specs.Facts.{has}
use Rattle.bd_relevant.proofs.relevance.all_facts.Given as goal

abbrev pub invariant-loop-f : goal.invariant-loop-f
invariant-loop-f l = (q : ℕ) → q < l.f → has l.facts q ≡ true
