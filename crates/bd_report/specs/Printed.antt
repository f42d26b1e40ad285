-- What a sink has taken of a text that was to be put.
use Rattle.std.specs.Prelude.{◌≡◌, ℕ, List, Option, Result, Ok, Err}
use Rattle.bd_base.specs.Causes.{Rose, TakesPart, appended}
use Rattle.bd_report.specs.declared.printing.Unprinted.{Unprinted}
use Rattle.bd_report.specs.declared.printing.Unprinted.TheVariants.{Failed, NoMemory}

-- what a sink tells before and after a call, and its counts of faults
pub record Taken : Type 0 where
  pub before : Option (List ℕ)
  pub after : Option (List ℕ)
  pub faults : ℕ
  pub faults_after : ℕ

-- the whole text was put; or memory was wanting, and nothing was put; or the put failed, and a first part was taken
abbrev pub Prints : {T : Type 0} → Taken → List ℕ → Result T Unprinted → Type 0
Prints s text (Ok t) = s.after ≡ appended s.before text
Prints s text (Err NoMemory) = (s.after ≡ s.before) × (s.faults_after ≡ s.faults)
Prints s text (Err Failed) = Rose s.faults s.faults_after × TakesPart s.before s.after text
