use Rattle.std.proofs.Common.{◌≡◌, ◌++◌, [], drop, map}
use Rattle.bd_base.specs.Facts.{plus}
use Rattle.bd_links.specs.Child.{Child}
use Rattle.bd_subtask.specs.Level.{touched_rows}
use Rattle.bd_subtask.proofs.fact_rows.touched_of.Given as goal

abbrev pub invariant-loop-kid : goal.invariant-loop-kid
invariant-loop-kid l = l.touched.items ++ map (λ (k : Child). plus [] (touched_rows l.rows k)) (drop l.kid-index l.kids) ≡ map (λ (k : Child). plus [] (touched_rows l.rows k)) l.kids
