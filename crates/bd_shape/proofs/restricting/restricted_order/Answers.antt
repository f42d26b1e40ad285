use Rattle.std.proofs.Common.{◌≡◌, List, ℕ, length, sym, ap, ◌∙◌, subst}
use Rattle.std.specs.List.{enumerate_from}
use Rattle.bd_shape.specs.Placed.{AreApart, placed_order}
use Rattle.bd_shape.specs.Restricted.{members}
use Rattle.bd_shape.specs.declared.place.Place.{Place}
use Rattle.bd_shape.proofs.ApartLemmas.{members_apart, placed_restricted}
use Rattle.bd_shape.proofs.ResultLemmas.{if_ok}
use Rattle.bd_shape.proofs.RunLemmas.{alone_split}
use Rattle.bd_shape.proofs.restricting.restricted_order.Goals as goal

pub placed_order-requires-clause-apart : goal.placed_order-requires-clause-apart
placed_order-requires-clause-apart c = subst (λ (z : List Place). AreApart (length c.args.kids.now) z) (sym c.requires) (members_apart c.args.ids.now c.args.order.now c.args.kids.now)

pub placed_order-requires-clause-split : goal.placed_order-requires-clause-split
placed_order-requires-clause-split c =
    alone_split c.no_sides-none.result c.no_sides-none.ensures.after (members c.args.ids.now (enumerate_from 0 c.args.kids.now)) c.args.places.now c.requires c.in_ok-cut.cut c.in_ok-cut.ensures

pub returns : goal.returns
returns c =
    let none = c.no_sides-none.result in
    if_ok (λ (o : List (ℕ × ℕ)). o ≡ placed_order c.args.order.now none c.args.places.now) _ c.placed_order.result
    (λ o e. e ∙ ap (placed_order c.args.order.now none) c.requires ∙ placed_restricted c.args.order.now none c.no_sides-none.ensures.before (members c.args.ids.now (enumerate_from 0 c.args.kids.now))) c.placed_order.ensures
