use Rattle.std.proofs.Common.{◌≡◌, drop}
use Rattle.bd_links.specs.InTurn.{no_effects, turns}
use Rattle.bd_links.proofs.in_turn.effects_in_turn.Given as goal

abbrev pub invariant-loop-kid : goal.invariant-loop-kid
invariant-loop-kid l = turns l.e (drop l.kid-index l.kids) ≡ turns no_effects l.kids
