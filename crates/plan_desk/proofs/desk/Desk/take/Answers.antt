use Rattle.std.proofs.Common.{rules, refl, sym, subst}
use Rattle.plan_core.specs.Core.{CoreView}
use Rattle.atomic_table.specs.Table.{Me}
use Rattle.plan_desk.specs.declared.view.View.{View}
use Rattle.plan_desk.specs.Seats.{AtRest, HasTurn}
use Rattle.plan_desk.proofs.Steps.{takes_turn}
use Rattle.plan_desk.proofs.Turns.{hit, took_turn}
use Rattle.plan_desk.proofs.desk.Desk.take.Goals as goal

pub compare_exchange-found-requires : goal.compare_exchange-found-requires
compare_exchange-found-requires g c = let i = c.loop.invariant in
    (search rules, search rules, takes_turn _ _ _ _ (subst (λ (me : Me CoreView View). AtRest me) (sym i.2) c.requires.rest) _ _ refl c.if-mark-eq0.true)

pub returns-then-found-mark-clause-took : goal.returns-then-found-mark-clause-took
returns-then-found-mark-clause-took g c = let i = c.loop.invariant in let now = c.compare_exchange-found.new.seat.me in
    subst (λ (me : Me CoreView View). HasTurn me now) i.2
    (took_turn c.loop.turn.me now _ (subst (λ (me : Me CoreView View). AtRest me) (sym i.2) c.requires.rest) (hit _ _ _ _ c.if-found-mark.true c.compare_exchange-found.ensures.2))
