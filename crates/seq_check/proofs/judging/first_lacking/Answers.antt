use Rattle.std.proofs.Common.{ℕ, List, subst, sym, ap, ◌∙◌}
use Rattle.bd_task.specs.Run.{lacking}
use Rattle.seq_check.proofs.BreakLemmas.{lacking_later}
use Rattle.bd_task.specs.TaskView.{AreBelow}
use Rattle.seq_check.proofs.judging.first_lacking.Goals as goal

pub returns-then-not-has-clause-below : goal.returns-then-not-has-clause-below
returns-then-not-has-clause-below c = λ n below. (subst (AreBelow n) c.in-Some.ensures.steps (c.loop-f.invariant.below n below)).0

pub loop-f-preserved : goal.loop-f-preserved
loop-f-preserved c = record {
  first = sym (ap (λ (z : List ℕ). lacking z c.args.s.now) c.in-Some.ensures.steps ∙ lacking_later c.in-Some.f c.next.new.self c.args.s.now _ (c.has.ensures) c.if-not-has.false) ∙ c.loop-f.invariant.first;
  below = λ n below. (subst (AreBelow n) c.in-Some.ensures.steps (c.loop-f.invariant.below n below)).1;
}
