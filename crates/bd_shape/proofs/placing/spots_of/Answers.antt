use Rattle.std.proofs.Common.{◌∙◌}
use Rattle.bd_shape.specs.declared.place.Place.TheVariants.{Outside}
use Rattle.bd_shape.proofs.PlacedLemmas.{all_spots, apart_more, spots_more}
use Rattle.bd_shape.proofs.placing.spots_of.Goals as goal

pub loop-at-preserved : goal.loop-at-preserved
loop-at-preserved c = (
  c.put_spot.ensures.len ∙ c.loop-at.invariant.0,
  apart_more c.args.places.now c.loop-at.at (Outside 0) c.loop-at-test.true c.args.kids c.loop-at.invariant.1,
  spots_more c.args.places.now c.loop-at.at (Outside 0) c.loop-at-test.true c.loop-at.spots.items c.put_spot.new.spots.items c.in_ok-position.field-0 c.in_ok-position.ensures c.put_spot.ensures.spots c.loop-at.invariant.2,
)

pub returns : goal.returns
returns c = all_spots c.args.kids c.loop-at.at c.args.places.now c.loop-at.spots.items c.requires c.loop-at-test.false c.loop-at.invariant.2
