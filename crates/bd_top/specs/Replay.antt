-- How the offers of a script are made one by one, and what is put for them.
use Rattle.std.specs.Prelude.{◌≡◌, ◌⊎◌, ℕ, List, [], ◌∷◌, ◌++◌, length, Result, Ok, Err}
use Rattle.plan_core.specs.Core.{CoreView}
use Rattle.plan_core.specs.Law.{after_reply}
use Rattle.plan_core.specs.Replies.{Replies, TellsFact}
use Rattle.plan_core.specs.declared.offer.Offer.{Offer}
use Rattle.plan_core.specs.declared.refusal.Refusal.{Refusal}
use Rattle.plan_core.specs.declared.refusal.Refusal.TheVariants as refusal
use Rattle.run_texts.specs.declared.putting.Stop.{Stop}
use Rattle.run_texts.specs.declared.putting.Stop.TheVariants as stop
use Rattle.run_texts.specs.Taken.{Taken, HasFailed}

-- the reply says something of its offer, where there are so many facts: memory wasn't wanting, and a fact that it tells is one of them
abbrev pub IsTold : ℕ → Result ℕ Refusal → Type 0
IsTold facts (Err refusal.NoMemory) = ⊥
IsTold facts (Err why) = TellsFact facts why
IsTold facts (Ok place) = Unit {0}

-- the first offers of a list were made, as many as there are replies: each has the defined reply on the core that those before it
-- led to, and together they led to the last core
abbrev pub Makes : CoreView → List Offer → List (Result ℕ Refusal) → CoreView → Type 0
Makes core offers [] last = last ≡ core
Makes core [] (reply ∷ replies) last = ⊥
Makes core (offer ∷ offers) (reply ∷ replies) last = IsTold (length core.task.facts) reply × Replies core offer reply × Makes (after_reply core offer reply) offers replies last

-- one more offer was made: its reply stands last, and led to the last core
pub record IsMade (core : CoreView) (offer : Offer) (before after : List (Result ℕ Refusal)) (last : CoreView) : Type 0 where
  pub reply : Result ℕ Refusal
  pub told : IsTold (length core.task.facts) reply
  pub replied : Replies core offer reply
  pub listed : after ≡ before ++ reply ∷ []
  pub leads : last ≡ after_reply core offer reply

-- memory was wanting before the offer was made
pub record IsUnmade (core : CoreView) (before after : List (Result ℕ Refusal)) (last : CoreView) : Type 0 where
  pub listed : after ≡ before
  pub leads : last ≡ core

-- an offer was made, unless memory was wanting before
abbrev pub MakesOne : CoreView → Offer → List (Result ℕ Refusal) → List (Result ℕ Refusal) → CoreView → Result (Unit {0}) Stop → Type 0
MakesOne core offer before after last (Err stop.NoMemory) = IsMade core offer before after last ⊎ IsUnmade core before after last
MakesOne core offer before after last other = IsMade core offer before after last

-- a write fault comes only where a sink failed
abbrev pub IsCause : Taken → Taken → Stop → Type 0
IsCause out notes stop.WriteFault = HasFailed out ⊎ HasFailed notes
IsCause out notes stop.NoMemory = Unit {0}
