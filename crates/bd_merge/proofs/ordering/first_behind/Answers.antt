use Rattle.std.proofs.Common.{◌≡◌, true, Some, slice_get, ap, ◌∙◌, arith}
use Rattle.std.proofs.lemmas.Option.{slice_get-get_or}
use Rattle.bd_merge.specs.Starts.{is_passed}
use Rattle.bd_merge.specs.declared.merging.Place.TheVariants.{Back}
use Rattle.bd_merge.specs.declared.ordering.Side.TheVariants.{Behind}
use Rattle.bd_merge.proofs.StartLemmas.{behind_found, behind_none, behind_later, not_back}
use Rattle.bd_merge.proofs.ordering.first_behind.Goals as goal

pub returns-in-Back-clause-start : goal.returns-in-Back-clause-start
returns-in-Back-clause-start c =
    let places = c.args.places.now in
    let at : slice_get places c.loop-place.q ≡ Some (Back c.in-Back.field-0) = ap (slice_get places) c.loop-place.invariant.0 ∙ slice_get-get_or places c.loop-place.place-index _ c.loop-place-test.true ∙ ap Some c.in-Back.is in
    behind_found c.args.olds places c.requires.listed c.loop-place.q c.loop-place.invariant.1 c.in-Back.field-0 at

pub loop-place-preserved : goal.loop-place-preserved
loop-place-preserved c =
    let places = c.args.places.now in
    let here : is_passed Behind 0 (slice_get places c.loop-place.q) ≡ true =
    ap (λ z. is_passed Behind 0 (slice_get places z)) c.loop-place.invariant.0 ∙ ap (is_passed Behind 0) (slice_get-get_or places c.loop-place.place-index _ c.loop-place-test.true) ∙ not_back _ c.in_default.not-Back in
    (omega (arith, c.loop-place.invariant.0), behind_later c.args.olds places c.requires.listed c.loop-place.q c.loop-place.invariant.1 here)

pub returns-clause-start : goal.returns-clause-start
returns-clause-start c = behind_none c.args.olds c.args.places.now c.requires.listed c.loop-place.q c.loop-place.invariant.1 (omega (arith, c.loop-place.invariant.0))
