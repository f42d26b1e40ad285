use Rattle.std.proofs.Common.{◌≡◌, ◌+◌, ◌*◌, ◌≤◌, drop}
use Rattle.bd_task.specs.Valid.{break_from, first_break, cost_of}
use Rattle.seq_check.proofs.judging.judge.Given as goal

abbrev pub invariant-loop-i : goal.invariant-loop-i
invariant-loop-i l = record {
  judged : break_from l.task l.s (l.i + 1) (drop l.i l.list) ≡ first_break l.task l.list;
  cost : l.cost + cost_of l.task (drop l.i l.list) ≡ cost_of l.task l.list;
  small : l.cost ≤ 1_000_000_000 * l.i;
}
