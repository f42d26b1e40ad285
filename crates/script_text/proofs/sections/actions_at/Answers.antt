use Rattle.std.proofs.Common.{◌∙◌, sym, arith}
use Rattle.script_text.specs.Lines.{words, worded}
use Rattle.script_text.proofs.SectionLemmas.{actions_step}
use Rattle.script_text.proofs.sections.actions_at.Goals as goal

pub loop-line-preserved : goal.loop-line-preserved
loop-line-preserved c =
    let a = c.in_ok-action_at-in-Some-after_key.field-0 in
    let step = actions_step c.args.facts.now c.loop-line.names c.loop-line.actions.items c.loop-line.at.number (words c.in-Some.line.now) (worded c.in-Some.after.rest.now) (words c.in-Some-after_key.rest.now) a c.action_at.new.names (sym c.in-Some-after_key.ensures) c.in_ok-action_at-in-Some-after_key.ensures.action in
    record {
      few = omega (arith, c.in-Some.ensures.1, c.in_ok-action_at-in-Some-after_key.ensures.grown);
      same = rw (c.in-Some.ensures.1, c.in_ok-push-in-Some-after_key.ensures.items) (sym step ∙ (rw c.in-Some.ensures.0 at c.loop-line.invariant.same));
    }
