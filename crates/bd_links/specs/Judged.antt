-- What a walk that stops at the first fault answers.
use Rattle.std.specs.Prelude.{◌≡◌, ℕ, List, Option, Some, None, Result, Ok, Err}
use Rattle.bd_links.specs.Child.{Child}
use Rattle.bd_links.specs.Faults.{root_fault}
use Rattle.bd_links.specs.declared.parts.Fault.{Fault}
use Rattle.bd_links.specs.declared.parts.Stop.{Stop}
use Rattle.bd_links.specs.declared.parts.Stop.TheVariants.{Found, NoMemory}

abbrev pub Judges : {A : Type 0} → Option Fault → A → Result A Stop → Type 0
Judges fault a (Ok b) = (fault ≡ None) × (b ≡ a)
Judges fault a (Err (Found f)) = fault ≡ Some f
Judges fault a (Err NoMemory) = Unit {0}

-- the answer for a root that was judged: a fault that was found is told, and memory is wanting only where it was for the walk
abbrev pub Answers : {E : Type 0} → List ℕ → List ℕ → Result Child Stop → Result (Option Fault) E → Type 0
Answers init goal (Ok root) (Ok told) = told ≡ root_fault init goal root.effects
Answers init goal (Err (Found fault)) (Ok told) = told ≡ Some fault
Answers init goal (Err NoMemory) (Err e) = Unit {0}
Answers init goal judged told = ⊥
