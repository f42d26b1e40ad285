use Rattle.std.proofs.Common.{◌≤◌, length}
use Rattle.bd_ground.specs.Singles.{AreSingles}
use Rattle.bd_ground.proofs.singles.widen.Given as goal

abbrev pub invariant-loop : goal.invariant-loop
invariant-loop l = record { singles : AreSingles l.sets.items; counted : l.counter ≤ length l.sets.items }
