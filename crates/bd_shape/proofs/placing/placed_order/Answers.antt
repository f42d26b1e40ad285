use Rattle.std.proofs.Common.{◌≡◌, ◌++◌, List, ℕ, map, ap, ◌∙◌}
use Rattle.bd_shape.specs.Placed.{placed_order}
use Rattle.bd_shape.proofs.PlacedLemmas.{one_row}
use Rattle.bd_shape.proofs.placing.placed_order.Goals as goal

pub loop-a-preserved : goal.loop-a-preserved
loop-a-preserved c =
    let pairs = c.loop-a.made in
    let row = c.in_ok-row.row in
    let grown : c.put_row.new.self ≡ pairs ++ map (λ b. (c.loop-a.a, b)) row =
    c.in_ok-put_row.ensures
    ∙ ap (λ (z : List ℕ). pairs ++ map (λ b. (c.in_ok-position.field-0, b)) z) c.row-in-loop-a.ensures.row
    ∙ ap (λ (z : ℕ). pairs ++ map (λ b. (z, b)) row) c.in_ok-position.ensures in
    one_row c.args.order.now c.args.sides.now c.args.places.now c.in_ok-spots.spots.items c.in_ok-spots.ensures c.loop-a.a c.loop-a-test.true row c.row-in-loop-a.ensures.rising c.in_ok-row.ensures
    pairs c.put_row.new.self (placed_order c.args.order.now c.args.sides.now c.args.places.now) c.loop-a.invariant grown
