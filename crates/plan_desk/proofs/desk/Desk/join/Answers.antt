use Rattle.std.proofs.Common.{rules, refl, ap, subst, ◌∙◌}
use Rattle.atomic_table.specs.Table.{Me, step}
use mathlib.Core.Option.{none}
use Rattle.plan_core.specs.Core.{CoreView}
use Rattle.plan_desk.specs.declared.view.View.{View}
use Rattle.plan_desk.specs.Seats.{SeatState, seat_of, AtRest}
use Rattle.plan_desk.specs.Ends.{Joined}
use Rattle.plan_desk.proofs.Merging.{joins_in, merges, merged_seat}
use Rattle.plan_desk.proofs.desk.Desk.join.Goals as goal

pub join_seat-requires : goal.join_seat-requires
join_seat-requires c = let i = c.seat.invariant in let o = c.other.invariant in
    (search rules, search rules, o.0, search rules, joins_in _ _ c.seat.inside.place.me.0 _ c.other.inside.place.me.0 i.1 i.3 (ap (λ (s : SeatState). s.leads) c.seat.view_is ∙ c.requires.leads) o.1 o.3)

pub load-requires : goal.load-requires
load-requires c = let me = c.join_seat.ensures.2 in
    (search rules, search rules, merges _ _ _ c.join_seat.new.seat.me (ap (λ (m : Me CoreView View). m.1) me ∙ c.seat.invariant.0) (ap (λ (m : Me CoreView View). m.0.phase) me ∙ c.seat.invariant.1))

whole : (c : goal.After-load) → (AtRest c.load.new.seat.me) × Joined (seat_of c.seat.inside.place.table_id c.seat.inside.place.me.0) (seat_of c.other.inside.place.table_id c.other.inside.place.me.0) (seat_of c.load.new.seat.table_id c.load.new.seat.me.0)
whole c = let i = c.seat.invariant in let o = c.other.invariant in
    merged_seat (step 1 0 0 0 none) _ _ _ c.seat.inside.place.me.0 c.other.inside.place.me.0 c.join_seat.new.seat.me c.load.new.seat.me c.load.result (c.load.ensures.0 ∙ c.join_seat.ensures.0)
    (refl, i.1, i.2, i.3, i.4) (refl, o.1, o.2, o.3, o.4) (ap (λ (m : Me CoreView View). m.0) c.join_seat.ensures.2) c.load.ensures.2

pub invariant_of-seat : goal.invariant_of-seat
invariant_of-seat c = (whole c).0

pub returns : goal.returns
returns c = subst (λ (s : SeatState). Joined s c.args.other (seat_of c.load.new.seat.table_id c.load.new.seat.me.0)) c.seat.view_is
    (subst (λ (s : SeatState). Joined (seat_of c.seat.inside.place.table_id c.seat.inside.place.me.0) s (seat_of c.load.new.seat.table_id c.load.new.seat.me.0)) c.other.view_is (whole c).1)
