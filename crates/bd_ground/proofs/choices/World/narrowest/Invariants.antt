use Rattle.std.proofs.Common.{map}
use Rattle.std.specs.Prelude.{IfSome}
use Rattle.bd_ground.specs.Index.{Narrows}
use Rattle.bd_ground.proofs.choices.World.narrowest.Given as goal

abbrev pub invariant-loop-i : goal.invariant-loop-i
invariant-loop-i l = IfSome l.best (λ n. Narrows l.self.domain.now l.self.stated.now l.schema l.chosen n.atom.now (map (λ g. g.now) n.rows.now))
