use Rattle.std.proofs.Common.{◌≡◌, ◌+◌, ◌*◌, ◌≤◌, drop}
use Rattle.bd_task.specs.Valid.{cost_of}
use Rattle.bd_task.proofs.ground.Task.cost.Given as goal

abbrev pub invariant-loop-i : goal.invariant-loop-i
invariant-loop-i l = record {
  sum : l.sum + cost_of l.self (drop l.i l.list) ≡ cost_of l.self l.list;
  small : l.sum ≤ 1_000_000_000 * l.i;
}
