use Rattle.std.proofs.Common.{◌≡◌, drop, []}
use Rattle.std.specs.List.{enumerate_from}
use Rattle.bd_links.specs.Rows.{linked_by}
use Rattle.bd_links.proofs.RowLemmas.{unlinked_in}
use Rattle.bd_links.proofs.sets.needs_of_block.Given as goal

abbrev pub invariant-loop-j : goal.invariant-loop-j
invariant-loop-j l =
    unlinked_in (linked_by l.order l.touches) l.need (enumerate_from l.j (drop l.j l.kids))
    ≡ unlinked_in (linked_by l.order l.touches) [] (enumerate_from 0 l.kids)
