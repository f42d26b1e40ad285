use Rattle.std.proofs.Common.{arith, drop, ◌+◌}
use Rattle.bd_heur.proofs.SettlingLemmas.{lowered_more, rest_at}
use Rattle.bd_heur.proofs.settling.lower_all.Goals as goal

pub loop-p-preserved : goal.loop-p-preserved
loop-p-preserved c =
    lowered_more c.args.value c.args.facts.now c.args.table.now.items c.args.queue.now c.p-item.result (drop c.loop-p.p-index c.args.facts.now) (drop (c.loop-p.p-index + 1) c.args.facts.now) c.loop-p.table.items c.loop-p.queue
    c.lower_fact.new.table.items c.lower_fact.new.queue (rest_at c.args.facts.now c.loop-p.p-index c.p-item.result (omega arith) c.p-item.is) c.loop-p.invariant c.in_ok-lower_fact.ensures
