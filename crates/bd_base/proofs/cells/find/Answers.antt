use Rattle.bd_base.proofs.CellLemmas.{lacks_end, lacks_here}
use Rattle.bd_base.proofs.cells.find.Goals as goal
use Rattle.bd_base.proofs.cells.find.Goals.{then-place-cells-via-then-place-cells, then-place-cells-via-else-place-cells+then-cells-place}

pub returns-then-place-cells : goal.returns-then-place-cells
returns-then-place-cells c =
    let p = c.place_of-place.ensures in
    elim c.then-place-cells.branch [
      | then-place-cells-via-then-place-cells w ↦ lacks_end c.args.cells.now c.place_of-place.result c.args.number w.if-place-cells.true p.below
      | then-place-cells-via-else-place-cells+then-cells-place w ↦ lacks_here c.args.cells.now c.place_of-place.result c.args.number _ c.requires p.within w.if-place-cells.false p.below p.above w.if-cells-place.true
    ]
