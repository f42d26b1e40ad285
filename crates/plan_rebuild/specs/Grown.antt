-- How a core grows: its history goes on, and all that was true of its places stays true.
use Rattle.std.specs.Prelude.{◌≡◌, ℕ, Bool, true, List, ◌++◌, take}
use Rattle.std.specs.List.{list_all}
use Rattle.plan_core.specs.Core.{CoreView, State, opened, replay}
use Rattle.plan_core.specs.declared.offer.Offer.{Offer}

-- a core of the same opening, whose history begins with that of the one before
pub record Grows (before after : CoreView) : Type 0 where
  pub task : after.task ≡ before.task
  pub start : after.start ≡ before.start
  pub stop : after.stop ≡ before.stop
  pub added : List Offer
  pub history : after.history ≡ before.history ++ added

-- and each further entry is of this kind
pub record Adds (test : Offer → Bool) (before after : CoreView) : Type 0 where
  pub grows : Grows before after
  pub kind : list_all test grows.added ≡ true

abbrev pub with_state : CoreView → List Offer → State → CoreView
with_state core history state = record { task = core.task; start = core.start; history = history; tree = state.tree; next = state.next; stop = core.stop }

-- the core that the first entries of a core's history lead to
abbrev pub core_at : CoreView → ℕ → CoreView
core_at core place = with_state core (take place core.history) (replay (opened core.start) (take place core.history))
