-- What a sink has received in a call.
use Rattle.std.specs.Prelude.{◌≡◌, ℕ, List, ◌++◌, Option, Result, Ok, Err}
use Rattle.bd_base.specs.Causes.{Rose, TakesPart, appended}
use Rattle.run_texts.specs.declared.putting.Stop.{Stop}
use Rattle.run_texts.specs.declared.putting.Stop.TheVariants as stop

-- what a sink tells before and after a call, and its counts of faults
pub record Taken : Type 0 where
  pub before : Option (List ℕ)
  pub after : Option (List ℕ)
  pub faults : ℕ
  pub faults_after : ℕ

-- the sink has received nothing
abbrev pub IsSilent : Taken → Type 0
IsSilent s = s.after ≡ s.before

-- the sink has received exactly the text
abbrev pub Receives : Taken → List ℕ → Type 0
Receives s text = s.after ≡ appended s.before text

-- the sink has received a first part of the text
abbrev pub ReceivesPart : Taken → List ℕ → Type 0
ReceivesPart s text = TakesPart s.before s.after text

-- the sink's count of faults rose
abbrev pub HasFailed : Taken → Type 0
HasFailed s = Rose s.faults s.faults_after

-- the sink failed, and has received a first part of the text
pub record IsCut (s : Taken) (text : List ℕ) : Type 0 where
  pub failed : HasFailed s
  pub part : ReceivesPart s text

-- a text was put, or the sink failed within it, or memory was wanting before
abbrev pub Puts : List ℕ → Taken → Result (Unit {0}) Stop → Type 0
Puts text s (Ok done) = Receives s text
Puts text s (Err stop.WriteFault) = IsCut s text
Puts text s (Err stop.NoMemory) = IsSilent s

-- where a text grew, a sink has received what came behind
pub record Follows (from to : List ℕ) (s : Taken) : Type 0 where
  pub piece : List ℕ
  pub grown : to ≡ from ++ piece
  pub received : Receives s piece

-- where a text grew, a sink has received a first part of what came behind
pub record FollowsPart (from to : List ℕ) (s : Taken) : Type 0 where
  pub piece : List ℕ
  pub grown : to ≡ from ++ piece
  pub received : ReceivesPart s piece

abbrev pub FollowsSo : List ℕ → List ℕ → Taken → Result (Unit {0}) Stop → Type 0
FollowsSo from to s (Ok done) = Follows from to s
FollowsSo from to s (Err why) = FollowsPart from to s
