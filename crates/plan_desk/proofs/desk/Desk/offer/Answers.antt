use Rattle.std.proofs.Common.{rules, ◌∷◌, sym, ap, ◌∙◌}
use Rattle.atomic_table.specs.Table.{rest}
use Rattle.plan_desk.specs.Rules.{core_of}
use Rattle.plan_desk.proofs.Turns.{grown_rest}
use Rattle.plan_desk.proofs.desk.Desk.offer.Goals as goal

pub slot_mut-core-requires : goal.slot_mut-core-requires
slot_mut-core-requires g c = let busy = c.take.ensures.took.busy in
    (search rules, (core_of c.take.new.turn.me.0.brought c.take.new.turn.me.0.seen, busy.3 ∙ ap (λ l. (0, core_of c.take.new.turn.me.0.brought c.take.new.turn.me.0.seen) ∷ rest l) (sym busy.3)))

pub invariant_of-seat : goal.invariant_of-seat
invariant_of-seat g c = let t = c.take.ensures.took in grown_rest c.take.new.turn.me.0 c.args.offer.now c.give_more.new.turn.me t.busy.1 t.busy.2 t.rises c.give_more.ensures.given
