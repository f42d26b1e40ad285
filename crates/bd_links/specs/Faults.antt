-- The faults of a block and of a root, the first one first.
use Rattle.std.specs.Prelude.{ℕ, Bool, not, ◌&&◌, ◌||◌, List, [], ◌∷◌, map, find, Option, Some, None}
use Rattle.std.specs.Option.{option_or}
use Rattle.bd_base.specs.Facts.{has}
use Rattle.bd_task.specs.Run.{lacking}
use Rattle.bd_links.specs.declared.parts.Effects.{Effects}
use Rattle.bd_links.specs.declared.parts.Fault.{Fault}
use Rattle.bd_links.specs.declared.parts.Fault.TheVariants.{Inside, Need, Goal}
use Rattle.bd_links.specs.Effects.{Kid, Order, is_safe}

-- the first fault that is there
abbrev pub first_of : List (Option Fault) → Option Fault
first_of [] = None
first_of (f ∷ fs) = option_or f (first_of fs)

abbrev pub inside : ℕ → ℕ → Option ℕ → Option Fault
inside block child None = None
inside block child (Some p) = Some (Inside block child p)

-- the least fact that kid j needs and isn't safe for: needs rise, so the first is the least
abbrev pub kid_fault : ℕ → Order → List Kid → Kid → Option Fault
kid_fault block order kids j = inside block j.1.id (find (λ p. not (is_safe order kids j p)) j.1.effects.need)

-- at the kid of the least position that has one
abbrev pub block_fault : ℕ → Order → List Kid → Option Fault
block_fault block order kids = first_of (map (kid_fault block order kids) kids)

-- whether a fact is true at the end of what has these effects: it is given, or true at the start and not deleted
abbrev pub holds_after : List ℕ → Effects → ℕ → Bool
holds_after init e g = has e.add g || (has init g && not (has e.del g))

abbrev pub need_fault : Option ℕ → Option Fault
need_fault None = None
need_fault (Some p) = Some (Need p)

abbrev pub goal_fault : Option ℕ → Option Fault
goal_fault None = None
goal_fault (Some p) = Some (Goal p)

-- the fault of a root with these effects: the least need that the initial set lacks, and then the least goal fact that isn't true at the end
abbrev pub root_fault : List ℕ → List ℕ → Effects → Option Fault
root_fault init goal e = option_or (need_fault (lacking e.need init)) (goal_fault (find (λ g. not (holds_after init e g)) goal))

-- the fact that a fault tells
abbrev pub fact_of : Fault → ℕ
fact_of (Inside block child p) = p
fact_of (Need p) = p
fact_of (Goal p) = p
