use Rattle.std.proofs.Common.{◌≡◌, map, drop, []}
use Rattle.std.specs.List.{enumerate_from}
use Rattle.bd_links.specs.Faults.{first_of, kid_fault, block_fault}
use Rattle.bd_links.specs.Rows.{linked_by}
use Rattle.bd_links.proofs.RowLemmas.{unlinked_in}
use Rattle.bd_links.proofs.sets.judged_needs.Given as goal

abbrev pub invariant-loop-j : goal.invariant-loop-j
invariant-loop-j l = record {
  fault : first_of (map (kid_fault l.block l.order (enumerate_from 0 l.kids)) (enumerate_from l.j (drop l.j l.kids)))
      ≡ block_fault l.block l.order (enumerate_from 0 l.kids);
  need : unlinked_in (linked_by l.order l.touches) l.need (enumerate_from l.j (drop l.j l.kids))
      ≡ unlinked_in (linked_by l.order l.touches) [] (enumerate_from 0 l.kids);
}
