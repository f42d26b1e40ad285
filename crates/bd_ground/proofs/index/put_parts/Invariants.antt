use Rattle.std.proofs.Common.{◌≡◌, map, length}
use Rattle.bd_ground.proofs.IndexLemmas.{IsPut}
use Rattle.bd_ground.proofs.index.put_parts.Given as goal

abbrev pub invariant-loop-k : goal.invariant-loop-k
invariant-loop-k l =
    (length l.rows.items ≡ length l.keys)
    × IsPut l.fn.keys l.keys (map (λ r. map (λ g. g.now) r.items) l.fn.rows.items) (map (λ r. map (λ g. g.now) r.items) l.rows.items) l.head l.objects l.k
