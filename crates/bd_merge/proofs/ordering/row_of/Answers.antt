use Rattle.std.proofs.Common.{◌≡◌, Some, slice_get, ap, ◌∙◌}
use Rattle.std.proofs.lemmas.Option.{slice_get-get_or}
use Rattle.bd_merge.specs.declared.merging.Place.TheVariants.{Front, New, Back}
use Rattle.bd_merge.specs.declared.ordering.Side.TheVariants.{Ahead, Behind}
use Rattle.bd_merge.proofs.RiseLemmas.{if_ok_then}
use Rattle.bd_merge.proofs.StartLemmas.{ahead_row, behind_row, new_row, starts_rise}
use Rattle.bd_merge.proofs.ordering.row_of.Goals as goal

pub kid_row-requires-clause-starts : goal.kid_row-requires-clause-starts
kid_row-requires-clause-starts c = starts_rise c.args.olds c.args.places.now c.requires.listed Ahead c.args.ahead.now.starts.items c.requires.ahead.starts

pub kid_row-requires-in-Back-clause-starts : goal.kid_row-requires-in-Back-clause-starts
kid_row-requires-in-Back-clause-starts c = starts_rise c.args.olds c.args.places.now c.requires.listed Behind c.args.behind.now.starts.items c.requires.behind.starts

pub returns-in-Front : goal.returns-in-Front
returns-in-Front c =
    let places = c.args.places.now in
    let parts = c.args.ahead.now in
    let is : slice_get places c.args.a ≡ Some (Front c.in-Front.i) = slice_get-get_or places c.args.a _ c.requires.within ∙ ap Some c.in-Front.is in
    if_ok_then c.kid_row.result _ _ c.kid_row.ensures (λ row made.
    ahead_row c.args.olds places c.requires.listed c.args.order.now c.args.a c.requires.within c.requires.order c.in-Front.i row parts.always parts.starts.items is c.requires.ahead.starts c.requires.ahead.always made)

pub returns-in-New : goal.returns-in-New
returns-in-New c =
    let places = c.args.places.now in
    let is : slice_get places c.args.a ≡ Some New = slice_get-get_or places c.args.a _ c.requires.within ∙ ap Some c.in-New.is in
    if_ok_then c.new_row.result _ _ c.new_row.ensures (λ row made.
    new_row c.args.olds places c.requires.listed c.args.order.now c.args.a c.requires.within is row c.args.behind.now.always c.requires.behind.always made)

pub returns-in-Back : goal.returns-in-Back
returns-in-Back c =
    let places = c.args.places.now in
    let parts = c.args.behind.now in
    let is : slice_get places c.args.a ≡ Some (Back c.in-Back.i) = slice_get-get_or places c.args.a _ c.requires.within ∙ ap Some c.in-Back.is in
    if_ok_then c.kid_row-in-Back.result _ _ c.kid_row-in-Back.ensures (λ row made.
    behind_row c.args.olds places c.requires.listed c.args.order.now c.args.a c.requires.within c.requires.order c.in-Back.i row parts.always parts.starts.items is c.requires.behind.starts c.requires.behind.always made)
