use Rattle.std.proofs.Common.{◌≡◌, drop}
use Rattle.bd_links.specs.InTurn.{no_effects, turns, turns_fault}
use Rattle.bd_links.proofs.in_turn.judge_in_turn.Given as goal

abbrev pub invariant-loop-kid : goal.invariant-loop-kid
invariant-loop-kid l = record {
  effects : turns l.e (drop l.kid-index l.kids) ≡ turns no_effects l.kids;
  fault : turns_fault l.block l.e (drop l.kid-index l.kids) ≡ turns_fault l.block no_effects l.kids;
}
