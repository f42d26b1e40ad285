use Rattle.bd_heur.proofs.RunningLemmas.{fact_step, all_run}
use Rattle.bd_heur.proofs.running.runnable.Goals as goal

pub loop-f-preserved : goal.loop-f-preserved
loop-f-preserved c = record {
  of_free = λ x runs i. c.in_ok-push_row-2.ensures.kept x (c.loop-f.invariant.of_free x runs i);
  each = fact_step c.args.task.now c.args.index.now.needers.items c.deref-in-loop-f.result.now c.args.s.now c.loop-f.items.items c.push_row-in-loop-f.new.items.items c.loop-f.f-iterator c.next.new.self c.row_of.result.now c.in-Some.f
      c.in-Some.ensures.steps c.row_of.ensures c.deref-in-loop-f.ensures.value c.in_ok-push_row-2.ensures.kept c.in_ok-push_row-2.ensures.pushed c.loop-f.invariant.each;
}

pub returns : goal.returns
returns c =
    all_run c.args.task.now c.args.index.now.needers.items c.args.index.now.free.items c.args.s.now c.loop-f.items.items c.loop-f.f-iterator c.in_ok-set.set c.requires.needers c.in_ok-set.ensures c.in-None.ensures.steps.0
    c.loop-f.invariant.of_free c.loop-f.invariant.each
