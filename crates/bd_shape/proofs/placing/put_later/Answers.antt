use Rattle.std.proofs.Common.{◌≡◌, ◌||◌, ◌&&◌, ℕ, Option, Some, None, eqb, ltb, get_or, sym, ap, ◌∙◌}
use Rattle.std.specs.Option.{option_map_or}
use Rattle.bd_base.specs.Facts.{has, insert_fact}
use Rattle.bd_base.proofs.FactLemmas.{has-insert_fact}
use Rattle.bd_shape.proofs.PlacedLemmas.{later_put}
use Rattle.bd_shape.proofs.ResultLemmas.{on_ok}
use Rattle.bd_shape.proofs.placing.put_later.Goals as goal

pub returns-in-Some : goal.returns-in-Some
returns-in-Some c =
    let later = c.in-Some.later in
    let found : get_or c.args.spots.now c.args.d None ≡ Some later = sym c.spot.ensures ∙ c.in-Some.is in
    on_ok (c.put.new.self ≡ insert_fact later c.args.row.now) _ c.put.result (λ e q.
    ap (λ z. has z q) e
    ∙ has-insert_fact later c.args.row.now q
    ∙ later_put c.args.at later q (has c.args.row.now q) c.if-later-at.true
    ∙ sym (ap (λ (o : Option ℕ). has c.args.row.now q || ltb c.args.at q && option_map_or (λ b. eqb b q) o Rattle.std.proofs.Common.false) found)) c.put.ensures.ok
