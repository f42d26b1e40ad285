-- Inner: serves this crate's own proofs alone.
-- Skips: ways from types to types above them, so that the end of a chain of parents is found without a walk along it all.
use Rattle.std.specs.Prelude.{◌≡◌, ℕ, List, Option, Some}
use Rattle.pddl_domain.specs.Types.{parent_at}

-- from the type k one comes to the type r by parents, or they are the same
pub data Above : List (Option ℕ) → ℕ → ℕ → Type 0 where
  above_self : {ps : List (Option ℕ)} {k r : ℕ} → k ≡ r → Above ps k r
  above_step : {ps : List (Option ℕ)} {k r : ℕ} (p : ℕ) → parent_at ps k ≡ Some p → Above ps p r → Above ps k r

-- it can't be that one doesn't come there
abbrev pub Leads : List (Option ℕ) → ℕ → ℕ → Type 0
Leads ps k r = (Above ps k r → ⊥) → ⊥

abbrev pub AreSkips : List (Option ℕ) → List (Option ℕ) → Type 0
AreSkips ps skips = (k u : ℕ) → parent_at skips k ≡ Some u → Leads ps k u
