use Rattle.std.proofs.Common.{◌≡◌, ◌∷◌, ◌≤◌, List, length, sym, ap, ◌∙◌, subst, arith}
use Rattle.bd_base.specs.Rows.{pairs_of, AreInTurn, AreSpans}
use Rattle.bd_base.specs.declared.spans.Span.{Span}
use Rattle.bd_base.proofs.TrimLemmas.{head_is, pairs_without_first, turn_without_first}
use Rattle.bd_base.proofs.spans.drop_first_rows.Goals as goal

pub loop-spans-preserved : goal.loop-spans-preserved
loop-spans-preserved c =
    let inv = c.loop-spans.invariant in
    let rest = c.remove.new.self.items in
    let s = c.index-row.result.now in
    let split : c.loop-spans.spans.items ≡ s ∷ rest = head_is c.loop-spans.spans.items s (omega (arith, c.remove.ensures.len)) c.index-row.ensures ∙ ap (λ (z : List Span). s ∷ z) (sym c.remove.ensures.items) in
    let none : s.end ≤ s.start = omega (arith, c.if-row.false) in
    record {
      same = λ words. sym (ap (λ (z : List Span). pairs_of words c.loop-spans.at z) split ∙ pairs_without_first words c.loop-spans.at s rest none) ∙ inv.same words;
      fits = λ size h. (subst (λ (z : List Span). AreSpans size z) split (inv.fits size h)).1;
      in_turn = λ h. turn_without_first s rest (subst (λ (z : List Span). AreInTurn 0 z) split (inv.in_turn h));
      few = omega (arith, inv.few, ap (λ (z : List Span). length z) split);
    }
