use Rattle.std.proofs.Common.{arith, drop, ◌+◌, slice_get}
use Rattle.bd_heur.proofs.SettlingLemmas.{relaxed_settling, light_relaxed, rest_at}
use Rattle.bd_heur.proofs.settling.relax_all.Goals as goal

pub loop-a-preserved : goal.loop-a-preserved
loop-a-preserved c = record {
  settling = relaxed_settling c.args.join c.args.task.now c.args.s.now c.init.ensures.task c.a-item.result (drop c.loop-a.a-index c.args.row.now) (drop (c.loop-a.a-index + 1) c.args.row.now) c.loop-a.table.items c.loop-a.queue
      c.relax.new.table.items c.relax.new.queue (rest_at c.args.row.now c.loop-a.a-index c.a-item.result (omega arith) c.a-item.is) c.loop-a.invariant.settling c.in_ok-relax.ensures;
  light = (let before = c.loop-a.invariant.light in
      let now = light_relaxed c.args.join c.args.task.now c.args.s.now c.init.ensures.task (slice_get c.args.task.now.actions c.a-item.result) c.loop-a.table.items c.loop-a.queue c.relax.new.table.items c.relax.new.queue c.in_ok-relax.ensures in omega (arith, before, now));
}
