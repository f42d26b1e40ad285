use Rattle.std.proofs.Common.{◌≡◌, true, sym, ◌∙◌, arith}
use Rattle.plan_rebuild.proofs.StepLemmas.{step_then}
use Rattle.plan_improve.specs.Inner.{goes_on}
use Rattle.plan_improve.proofs.RunLemmas.{few_kept, left_less, over, telling}
use Rattle.plan_improve.proofs.TellLemmas.{tells_then}
use Rattle.plan_improve.proofs.improving.turns.Goals as goal

pub loop-alloc-init : goal.loop-alloc-init
loop-alloc-init g c =
    let run = c.step-run.result in
    let made = c.step-run.ensures in
    record {
      step = made.step;
      few = few_kept c.args.core run.core made.step c.requires.few;
      ends = λ stops. over c.args.core run.core c.args.setup.now run.pieces.items run.told run.end made.ends stops;
      same = made.same;
      told = made.told;
      later = made.later;
    }

pub loop-alloc-smaller : goal.loop-alloc-smaller
loop-alloc-smaller g c =
    let was = c.loop-alloc.run in
    let run = c.step-run-in-loop-alloc.result in
    let made = c.step-run-in-loop-alloc.ensures in
    left_less was.core run.core c.args.setup.now run.pieces.items was.told was.end run.told run.end (sym c.goes_on.ensures ∙ c.loop-alloc-test.true) made.step made.ends

pub loop-alloc-preserved : goal.loop-alloc-preserved
loop-alloc-preserved g c =
    let was = c.loop-alloc.run in
    let kept = c.loop-alloc.invariant in
    let run = c.step-run-in-loop-alloc.result in
    let made = c.step-run-in-loop-alloc.ensures in
    let goes : goes_on was.told was.end ≡ true = sym c.goes_on.ensures ∙ c.loop-alloc-test.true in
    record {
      step = step_then c.args.core was.core run.core kept.step made.step;
      few = few_kept was.core run.core made.step kept.few;
      ends = λ stops. over was.core run.core c.args.setup.now run.pieces.items run.told run.end made.ends stops;
      same = made.same;
      told = tells_then _ _ _ _ _ _ kept.later _ _ _ run.told (telling was.told was.end _ _ _ goes kept.told) made.told;
      later = omega (arith, kept.later, made.later);
    }
