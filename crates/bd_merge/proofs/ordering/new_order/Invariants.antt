use Rattle.std.proofs.Common.{◌≡◌, ◌-◌, ◌++◌, filter, length}
use Rattle.bd_base.specs.Pairs.{in_turn}
use Rattle.bd_merge.specs.Merged.{is_kept, merged_order}
use Rattle.bd_merge.proofs.ordering.new_order.Given as goal

abbrev pub invariant-loop-a : goal.invariant-loop-a
invariant-loop-a l = l.made ++ filter (is_kept l.order l.places) (in_turn l.a (length l.places - l.a)) ≡ merged_order l.order l.places
