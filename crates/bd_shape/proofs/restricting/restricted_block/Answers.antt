use Rattle.std.proofs.Common.{List, ◌++◌, ap, ◌∙◌}
use Rattle.std.specs.List.{enumerate_from}
use Rattle.bd_shape.specs.Restricted.{members}
use Rattle.bd_shape.specs.declared.place.Place.{Place}
use Rattle.bd_shape.proofs.ApartLemmas.{places_of}
use Rattle.bd_shape.proofs.restricting.restricted_block.Goals as goal

pub restricted_order-requires : goal.restricted_order-requires
restricted_order-requires c =
    c.deref.ensures.value
    ∙ c.in_ok-put_members.ensures.places
    ∙ ap (λ (z : List Place). z ++ places_of (members c.args.ids.now (enumerate_from 0 c.args.kids.now))) c.new-places.ensures.items
