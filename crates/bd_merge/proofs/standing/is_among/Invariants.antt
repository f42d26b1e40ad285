use Rattle.std.proofs.Common.{◌↔◌, drop}
use Rattle.bd_merge.specs.Stands.{IsAmong}
use Rattle.bd_merge.proofs.standing.is_among.Given as goal

abbrev pub invariant-loop-kid : goal.invariant-loop-kid
invariant-loop-kid l = IsAmong (drop l.kid-index l.kids) l.node ↔ IsAmong l.kids l.node
