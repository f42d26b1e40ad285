use Rattle.std.proofs.Common.{◌≡◌, ◌++◌, ◌∷◌, ◌-◌, [], ◌≤◌, Some, List, get_or, sym, ap, ◌∙◌, subst, arith}
use Rattle.std.specs.Option.{option_to_list}
use Rattle.bd_base.specs.Rows.{pairs_of, AreInTurn, AreSpans}
use Rattle.bd_base.specs.declared.spans.Span.{Span}
use Rattle.bd_base.proofs.TrimLemmas.{pairs_without_last, fits_without_last, turn_without_last}
use Rattle.bd_base.proofs.spans.drop_last_rows.Goals as goal

pub loop-spans-preserved : goal.loop-spans-preserved
loop-spans-preserved c =
    let inv = c.loop-spans.invariant in
    let s = c.index-row.result.now in
    let split : c.loop-spans.spans.items ≡ c.pop.new.self.items ++ s ∷ [] = c.pop.ensures.items ∙ ap (λ z. c.pop.new.self.items ++ option_to_list z) (c.pop.ensures.value s (omega (arith, c.pop.ensures.len)) ∙ ap Some (sym (c.index-row.ensures ∙ ap (λ n. get_or c.loop-spans.spans.items (n - 1) s) c.len-in-loop-spans.ensures))) in
    let none : s.end ≤ s.start = omega (arith, c.if-row.false) in
    record {
      same = λ words i. sym (ap (λ (z : List Span). pairs_of words i z) split ∙ pairs_without_last words i c.pop.new.self.items s none) ∙ inv.same words i;
      fits = λ size h. fits_without_last size c.pop.new.self.items s (subst (λ (z : List Span). AreSpans size z) split (inv.fits size h));
      in_turn = λ from h. turn_without_last from c.pop.new.self.items s (subst (λ (z : List Span). AreInTurn from z) split (inv.in_turn from h));
      few = omega (arith, inv.few, c.pop.ensures.len);
    }
