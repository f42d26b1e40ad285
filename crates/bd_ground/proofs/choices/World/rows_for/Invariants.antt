use Rattle.std.proofs.Common.{map}
use Rattle.bd_ground.specs.Index.{Covers}
use Rattle.bd_ground.proofs.choices.World.rows_for.Given as goal

abbrev pub invariant-loop-k : goal.invariant-loop-k
invariant-loop-k l = Covers l.self.stated.now l.chosen l.a (map (λ g. g.now) l.best)
