use Rattle.std.proofs.Common.{◌≡◌, ◌-◌, ◌++◌, filter, length}
use Rattle.bd_base.specs.Pairs.{in_turn}
use Rattle.bd_shape.specs.Placed.{is_placed_pair, placed_order}
use Rattle.bd_shape.proofs.placing.placed_order.Given as goal

abbrev pub invariant-loop-a : goal.invariant-loop-a
invariant-loop-a l = l.made ++ filter (is_placed_pair l.order l.sides l.places) (in_turn l.a (length l.places - l.a)) ≡ placed_order l.order l.sides l.places
