use Rattle.std.proofs.Common.{◌≡◌, ◌<◌, ◌-◌, max, true, ltb, length, List, ℕ, ap, ◌+◌, ◌∙◌, arith}
use Rattle.std.proofs.lemmas.Option.{slice_get_within}
use Rattle.bd_base.specs.Bits.{upto}
use Rattle.bd_base.specs.Facts.{has, plus}
use Rattle.bd_shape.specs.Placed.{leads}
use Rattle.bd_shape.proofs.PlacedLemmas.{none_through}
use Rattle.bd_shape.proofs.ResultLemmas.{on_ok}
use Rattle.bd_shape.proofs.RunLemmas.{run_put}
use Rattle.bd_shape.proofs.placing.put_through.Goals as goal

pub returns-then-not-leads : goal.returns-then-not-leads
returns-then-not-leads c = λ q. none_through c.args.sides.now c.args.first c.args.places.now (ltb c.args.at q) (has c.args.row.now q) q (cc)

pub overflow_add-at : goal.overflow_add-at
overflow_add-at c =
    let within : c.args.at < length c.args.places.now = slice_get_within c.args.places.now c.args.at c.args.first c.requires.first in
    omega arith

pub returns : goal.returns
returns c =
    let row = c.args.row.now in
    let count = length c.args.places.now in
    let leading : leads c.args.sides.now c.args.first ≡ true = cc in
    let from : c.max.result ≡ max c.args.cut (c.args.at + 1) = c.max.ensures in
    let run : upto c.max.result (c.in_ok-end.end - c.max.result) ≡ upto (max c.args.cut (c.args.at + 1)) (count - max c.args.cut (c.args.at + 1)) =
    ap (λ z. upto z (c.in_ok-end.end - z)) from ∙ ap (λ z. upto (max c.args.cut (c.args.at + 1)) (z - max c.args.cut (c.args.at + 1))) c.in_ok-end.ensures in
    on_ok (c.put_run.new.self ≡ plus row (upto c.max.result (c.in_ok-end.end - c.max.result))) _ c.put_run.result
    (λ e. run_put c.args.sides.now c.args.places.now c.args.cut c.args.at c.args.first c.requires.split leading c.requires.first row c.put_run.new.self (e ∙ ap (λ (z : List ℕ). plus row z) run)) c.put_run.ensures
