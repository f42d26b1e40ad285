use Rattle.std.proofs.Common.{◌++◌, List, ℕ, map, ap, ◌∙◌, arith}
use Rattle.bd_merge.specs.Merged.{merged_order}
use Rattle.bd_merge.proofs.RowLemmas.{one_row}
use Rattle.bd_merge.proofs.ordering.new_order.Goals as goal

pub loop-a-preserved : goal.loop-a-preserved
loop-a-preserved c =
    let row = c.in_ok-row.row in
    one_row c.args.order.now c.args.places.now c.loop-a.a (omega arith) row c.row-in-loop-a.ensures.rising c.in_ok-row.ensures
    c.loop-a.made c.put_row.new.self (merged_order c.args.order.now c.args.places.now) c.loop-a.invariant
    (c.in_ok-put_row.ensures ∙ ap (λ (z : List ℕ). c.loop-a.made ++ map (λ b. (c.loop-a.a, b)) z) c.row-in-loop-a.ensures.row)
