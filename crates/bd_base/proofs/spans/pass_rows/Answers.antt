use Rattle.std.proofs.Common.{◌≡◌, ◌+◌, List, length, length-append, ap, sym, ◌∙◌, subst, arith}
use Rattle.bd_base.specs.declared.spans.Span.{Span}
use Rattle.bd_base.specs.Rows.{pairs_of, AreInTurn, AreSpans}
use Rattle.bd_base.proofs.RowLemmas.{pairs_of-pass, AreSpans-push}
use Rattle.bd_base.proofs.RemoveLemmas.{turn_pass}
use Rattle.bd_base.proofs.spans.pass_rows.Goals as goal

pub loop-spans-preserved : goal.loop-spans-preserved
loop-spans-preserved c =
    let inv = c.loop-spans.invariant in
    let pushed = c.in_ok-push.ensures.items in
    let longer : length c.push.new.self.items ≡ length c.loop-spans.spans.items + 1 = ap (λ (z : List Span). length z) pushed ∙ length-append _ _ in
    record {
      same = λ words i. ap (λ (z : List Span). pairs_of words i z) pushed ∙ pairs_of-pass words i c.loop-spans.spans.items ∙ inv.same words i;
      fits = λ size h. subst (λ (z : List Span). AreSpans size z) (sym pushed) (AreSpans-push size _ _ (inv.fits size h) (omega arith, omega arith, omega arith));
      in_turn = λ from h. subst (λ (z : List Span). AreInTurn from z) (sym pushed) (turn_pass from c.loop-spans.spans.items (inv.in_turn from h));
      few = omega arith;
    }

pub returns-in_err-push-clause-fits : goal.returns-in_err-push-clause-fits
returns-in_err-push-clause-fits c = λ size h. subst (λ (z : List Span). AreSpans size z) (sym c.in_err-push.ensures.items) (c.loop-spans.invariant.fits size h)

pub returns-in_err-push-clause-in_turn : goal.returns-in_err-push-clause-in_turn
returns-in_err-push-clause-in_turn c = λ from h. subst (λ (z : List Span). AreInTurn from z) (sym c.in_err-push.ensures.items) (c.loop-spans.invariant.in_turn from h)
