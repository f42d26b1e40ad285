use Rattle.std.proofs.Common.{List, [], ◌∷◌, ◌++◌, ap, ◌∙◌}
use Rattle.std.specs.List.{enumerate_from}
use Rattle.bd_shape.specs.Grouped.{fronts, backs}
use Rattle.bd_shape.specs.declared.place.Place.{Place}
use Rattle.bd_shape.specs.declared.place.Place.TheVariants.{Group}
use Rattle.bd_shape.proofs.ApartLemmas.{places_of}
use Rattle.bd_shape.proofs.grouping.new_block.Goals as goal

pub new_order-requires-clause-places : goal.new_order-requires-clause-places
new_order-requires-clause-places c =
    let all = enumerate_from 0 c.args.kids.now in
    let behind : List Place = places_of (backs c.args.ids.now c.args.order.now all) in
    let ahead : List Place = places_of (fronts c.args.ids.now c.args.order.now all) in
    c.deref.ensures.value
    ∙ c.in_ok-put_backs.ensures.places
    ∙ ap (λ (z : List Place). z ++ behind) (c.in_ok-push-2.ensures.items ∙ ap (λ (z : List Place). z ++ Group ∷ []) (c.in_ok-put_fronts.ensures.places ∙ ap (λ (z : List Place). z ++ ahead) c.new-places.ensures.items))
