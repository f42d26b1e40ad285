use Rattle.std.proofs.Common.{◌↔◌, drop}
use Rattle.bd_merge.specs.Stands.{AreAmong}
use Rattle.bd_merge.proofs.standing.are_among.Given as goal

abbrev pub invariant-loop-node : goal.invariant-loop-node
invariant-loop-node l = AreAmong l.kids (drop l.node-index l.nodes) ↔ AreAmong l.kids l.nodes
