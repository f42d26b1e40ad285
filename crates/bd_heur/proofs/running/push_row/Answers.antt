use Rattle.std.proofs.Common.{arith, drop, ◌+◌}
use Rattle.bd_heur.proofs.RunningLemmas.{row_step}
use Rattle.bd_heur.proofs.SettlingLemmas.{rest_at}
use Rattle.bd_heur.proofs.running.push_row.Goals as goal

pub loop-a-preserved : goal.loop-a-preserved
loop-a-preserved c = record {
  kept = λ x i. c.in_ok-push_running.ensures.kept x (c.loop-a.invariant.kept x i);
  pushed = row_step c.args.task.now c.args.s.now c.args.row.now c.loop-a.items.items c.push_running.new.items.items (drop c.loop-a.a-index c.args.row.now) (drop (c.loop-a.a-index + 1) c.args.row.now) c.a-item.result
      (rest_at c.args.row.now c.loop-a.a-index c.a-item.result (omega arith) c.a-item.is) c.in_ok-push_running.ensures.kept c.in_ok-push_running.ensures.pushed c.loop-a.invariant.pushed;
}

pub returns-in_err-push_running-clause-kept : goal.returns-in_err-push_running-clause-kept
returns-in_err-push_running-clause-kept c = λ x i. c.in_err-push_running.ensures.kept x (c.loop-a.invariant.kept x i)
