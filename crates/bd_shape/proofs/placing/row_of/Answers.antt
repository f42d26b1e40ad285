use Rattle.std.proofs.Common.{slice_get, ap, ◌∙◌}
use Rattle.std.proofs.lemmas.Option.{slice_get-get_or}
use Rattle.bd_shape.specs.declared.place.Place.TheVariants.{Outside}
use Rattle.bd_shape.proofs.PlacedLemmas.{row_made}
use Rattle.bd_shape.proofs.placing.row_of.Goals as goal

pub put_through-requires-clause-first : goal.put_through-requires-clause-first
put_through-requires-clause-first c = ap (slice_get c.args.places.now) c.in_ok-at.ensures ∙ slice_get-get_or c.args.places.now c.args.a (Outside 0) c.requires.within

pub returns : goal.returns
returns c =
    row_made c.args.order.now c.args.sides.now c.args.places.now c.args.spots.now c.requires.spots c.args.a c.in_ok-at.at (Outside 0) c.new-row.result c.put_after.new.row c.put_through.new.row
    c.requires.within c.in_ok-at.ensures c.new-row.ensures c.in_ok-put_after.ensures c.in_ok-put_through.ensures
