use Rattle.std.proofs.Common.{◌≡◌, List, ℕ, length, sym, ◌∙◌, subst}
use Rattle.bd_shape.specs.Placed.{AreApart, AreSplit, placed_order}
use Rattle.bd_shape.specs.declared.place.Place.{Place}
use Rattle.bd_shape.proofs.ApartLemmas.{grouped_apart, placed_grouped}
use Rattle.bd_shape.proofs.ResultLemmas.{if_ok}
use Rattle.bd_shape.proofs.RunLemmas.{grouped_split}
use Rattle.bd_shape.proofs.grouping.new_order.Goals as goal

pub placed_order-requires-clause-apart : goal.placed_order-requires-clause-apart
placed_order-requires-clause-apart c = subst (λ (z : List Place). AreApart (length c.args.kids.now) z) (sym c.requires.places) (grouped_apart c.args.ids.now c.args.order.now c.args.kids.now)

pub placed_order-requires-clause-split : goal.placed_order-requires-clause-split
placed_order-requires-clause-split c =
    subst (λ (z : List Place). AreSplit c.args.sides.now z c.args.cut) (sym c.requires.places)
    (grouped_split c.args.ids.now c.args.order.now c.args.kids.now c.args.sides.now c.requires.sides c.args.cut c.requires.cut)

pub returns : goal.returns
returns c =
    if_ok (λ (o : List (ℕ × ℕ)). o ≡ placed_order c.args.order.now c.args.sides.now c.args.places.now) _ c.placed_order.result
    (λ o e. e ∙ placed_grouped c.args.ids.now c.args.order.now c.args.kids.now c.args.sides.now c.requires.sides c.args.places.now) c.placed_order.ensures
