use Rattle.std.proofs.Common.{rules, ◌∷◌, sym, ap, subst, ◌∙◌}
use Rattle.atomic_table.specs.Table.{Me, rest}
use Rattle.plan_core.specs.Core.{CoreView}
use Rattle.plan_core.specs.Law.{IsCore}
use Rattle.plan_desk.specs.declared.view.View.{View}
use Rattle.plan_desk.specs.Lists.{Begins}
use Rattle.plan_desk.specs.Seats.{SeatState}
use Rattle.plan_desk.specs.Rules.{core_of}
use Rattle.plan_desk.proofs.desk.Desk.look.Goals as goal

pub slot_mut-core-requires : goal.slot_mut-core-requires
slot_mut-core-requires g c = let busy = c.take.ensures.took.busy in
    (search rules, (core_of c.take.new.turn.me.0.brought c.take.new.turn.me.0.seen, busy.3 ∙ ap (λ l. (0, core_of c.take.new.turn.me.0.brought c.take.new.turn.me.0.seen) ∷ rest l) (sym busy.3)))

pub returns-clause-seen : goal.returns-clause-seen
returns-clause-seen g c =
    let took = c.take.ensures.took in
    let given = c.give_back.ensures.given in (
      subst (λ (s : SeatState). Begins s.seen c.give_back.new.turn.me.0.seen) c.seat.view_is
          (subst (λ (m : Me CoreView View). Begins c.seat.inside.place.me.0.seen m.0.seen) (sym given) took.began),
      subst (λ (m : Me CoreView View). IsCore (core_of m.0.brought m.0.seen)) (sym given) took.legal,
    )
