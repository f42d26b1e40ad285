use Rattle.std.proofs.Common.{◌+◌, ◌-◌, ◌/◌, arith}
use Rattle.bd_base.proofs.CellLemmas.{all_below, all_above}
use Rattle.bd_base.proofs.cells.place_of.Goals as goal

pub loop-low-preserved-then-cells-middle : goal.loop-low-preserved-then-cells-middle
loop-low-preserved-then-cells-middle c =
    let inv = c.loop-low.invariant in
    let middle = c.loop-low.low + (c.loop-low.high - c.loop-low.low) / 2 in
    record {
      order = omega arith;
      within = inv.within;
      below = all_below c.args.cells.now middle c.args.number _ c.requires (omega arith) c.if-cells-middle.true;
      above = inv.above;
    }

pub loop-low-preserved : goal.loop-low-preserved
loop-low-preserved c =
    let inv = c.loop-low.invariant in
    let middle = c.loop-low.low + (c.loop-low.high - c.loop-low.low) / 2 in
    record {
      order = omega arith;
      within = omega arith;
      below = inv.below;
      above = all_above c.args.cells.now middle c.args.number _ c.requires c.if-cells-middle.false;
    }
