-- A seat as clauses see it.
use Rattle.std.specs.Prelude.{◌≡◌, ◌≤◌, ◌∷◌, ℕ, List, [], length, Bool}
use Rattle.atomic_table.specs.Seated.{TableId}
use Rattle.atomic_table.specs.Table.{Me}
use Rattle.plan_core.specs.Core.{CoreView}
use Rattle.plan_core.specs.Law.{IsCore}
use Rattle.plan_core.specs.declared.offer.Offer.{Offer}
use Rattle.plan_desk.specs.declared.view.View.{View}
use Rattle.plan_desk.specs.declared.view.Phase.TheVariants.{Idle, Busy}
use Rattle.plan_desk.specs.Lists.{Begins, Rises}
use Rattle.plan_desk.specs.Rules.{core_of}

pub record SeatState : Type 0 where
  pub desk : TableId
  pub brought : CoreView
  pub seen : List Offer
  pub mine : List ℕ
  pub leads : Bool
  pub out : ℕ

abbrev pub seat_of : TableId → View → SeatState
seat_of desk v = record { desk = desk; brought = v.brought; seen = v.seen; mine = v.mine; leads = v.leads; out = v.out }

-- between two calls a seat has no turn and holds nothing
abbrev pub AtRest : Me CoreView View → Type 0
AtRest me = (me.1 ≡ []) × (me.0.phase ≡ Idle) × (me.0.met ≡ []) × (me.0.gained ≡ []) × Rises 0 (length me.0.seen) me.0.mine

-- all but what was seen and what is its own
abbrev pub IsSameSeat : SeatState → SeatState → Type 0
IsSameSeat old now = (now.desk ≡ old.desk) × (now.brought ≡ old.brought) × (now.leads ≡ old.leads) × (now.out ≡ old.out)

-- it has the turn, and holds this core
abbrev pub IsBusy : Me CoreView View → CoreView → Type 0
IsBusy me core = (me.0.phase ≡ Busy) × (me.0.met ≡ []) × (me.0.gained ≡ []) × (me.1 ≡ (0, core) ∷ [])

-- the seat has taken the turn: it holds the core with the whole history, which begins with all that it had seen
pub record HasTurn (old now : Me CoreView View) : Type 0 where
  pub busy : IsBusy now (core_of now.0.brought now.0.seen)
  pub began : Begins old.0.seen now.0.seen
  pub brought : now.0.brought ≡ old.0.brought
  pub mine : now.0.mine ≡ old.0.mine
  pub leads : now.0.leads ≡ old.0.leads
  pub out : now.0.out ≡ old.0.out
  pub legal : IsCore (core_of now.0.brought now.0.seen)
  pub short : length now.0.seen ≤ 16_777_216
  pub rises : Rises 0 (length now.0.seen) now.0.mine
