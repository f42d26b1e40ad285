use Rattle.std.proofs.Common.{◌≡◌, take}
use Rattle.bd_base.specs.Pairs.{without_pair}
use Rattle.bd_base.specs.Rows.{pairs_of}
use Rattle.bd_base.proofs.rows.Rows.without.Given as goal

abbrev pub invariant-loop-k : goal.invariant-loop-k
invariant-loop-k l =
    l.rows ≡ without_pair l.i l.j (pairs_of l.self-inside.words.items l.self-inside.first (take l.k l.self-inside.spans.items))
