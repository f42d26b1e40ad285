-- What split, join and close give.
use Rattle.std.specs.Prelude.{◌≡◌, ◌≤◌, ◌+◌, ◌-◌, ℕ, [], length, false}
use Rattle.plan_core.specs.Core.{CoreView}
use Rattle.plan_core.specs.Law.{IsCore}
use Rattle.plan_desk.specs.Lists.{Begins, Rises, times, within, longer, merged}
use Rattle.plan_desk.specs.Rules.{core_of}
use Rattle.plan_desk.specs.Seats.{SeatState}

abbrev pub one_more_out : SeatState → SeatState
one_more_out s = record { desk = s.desk; brought = s.brought; seen = s.seen; mine = s.mine; leads = s.leads; out = s.out + 1 }

-- a seat that has seen as much, and has no offer of its own
abbrev pub split_off : SeatState → SeatState
split_off s = record { desk = s.desk; brought = s.brought; seen = s.seen; mine = []; leads = false; out = 0 }

-- the two lists begin one history, and the longer is kept; the two lists of places share none, and are kept in rising order
pub record Joined (old other now : SeatState) : Type 0 where
  pub desk : now.desk ≡ old.desk
  pub brought : now.brought ≡ old.brought
  pub leads : now.leads ≡ old.leads
  pub out : now.out ≡ old.out - 1
  pub seen : now.seen ≡ longer old.seen other.seen
  pub begun : Begins old.seen now.seen
  pub met : Begins other.seen now.seen
  pub mine : now.mine ≡ merged old.mine other.mine
  pub both : (p : ℕ) → times p now.mine ≡ times p old.mine + times p other.mine
  pub apart : (p : ℕ) → times p old.mine + times p other.mine ≤ 1
  pub rising : Rises 0 (length now.seen) now.mine

-- the core at home: its history begins with all that was seen, and the places that were added are just the seat's own
pub record Closes (seat : SeatState) (core : CoreView) : Type 0 where
  pub opening : core ≡ core_of seat.brought core.history
  pub brought : Begins seat.brought.history core.history
  pub seen : Begins seat.seen core.history
  pub legal : IsCore core
  pub places : (p : ℕ) → times p seat.mine ≡ within (length seat.brought.history) (length core.history) p
