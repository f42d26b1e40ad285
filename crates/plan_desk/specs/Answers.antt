-- What an offer is answered, in one history.
use Rattle.std.specs.Prelude.{◌≡◌, ℕ, List, [], ◌∷◌, ◌++◌, length, Result, Ok, Err}
use Rattle.plan_core.specs.Law.{IsCore}
use Rattle.plan_core.specs.declared.offer.Offer.{Offer}
use Rattle.plan_core.specs.Replies.{Replies}
use Rattle.bd_pieces.specs.declared.pieces.Refused.{Refused}
use Rattle.plan_desk.specs.Lists.{Begins}
use Rattle.plan_desk.specs.Rules.{core_of}
use Rattle.plan_desk.specs.Seats.{SeatState}

-- the offer was accepted after these entries, and is the last place of the seat's own
pub record Accepts (old now : SeatState) (offer : Offer) (k : ℕ) (before : List Offer) : Type 0 where
  pub began : Begins old.seen before
  pub seen : now.seen ≡ before ++ offer ∷ []
  pub reply : Replies (core_of now.brought before) offer (Ok k)
  pub place : k ≡ length now.seen
  pub mine : now.mine ≡ old.mine ++ k ∷ []
  pub legal : IsCore (core_of now.brought now.seen)

-- it was refused after these entries; want of memory is free
pub record Refuses (old now : SeatState) (offer : Offer) (r : Refused) : Type 0 where
  pub began : Begins old.seen now.seen
  pub reply : Replies (core_of now.brought now.seen) offer (Err r.why)
  pub place : r.place ≡ length now.seen
  pub mine : now.mine ≡ old.mine
  pub legal : IsCore (core_of now.brought now.seen)

abbrev pub Answers : SeatState → SeatState → Offer → Result ℕ Refused → Type 0
Answers old now offer (Ok k) = (before : List Offer) × Accepts old now offer k before
Answers old now offer (Err r) = Refuses old now offer r
