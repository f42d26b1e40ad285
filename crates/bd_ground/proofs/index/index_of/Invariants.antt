use Rattle.std.proofs.Common.{map, take, length}
use Rattle.bd_ground.proofs.IndexLemmas.{AreFound}
use Rattle.bd_ground.proofs.index.index_of.Given as goal

abbrev pub invariant-loop-g : goal.invariant-loop-g
invariant-loop-g l = AreFound l.keys (map (λ r. map (λ g. g.now) r.items) l.rows.items) (map (λ g. g.items) (take l.g-index l.g-items)) (length l.rows.items)
