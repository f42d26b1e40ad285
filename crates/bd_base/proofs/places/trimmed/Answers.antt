use Rattle.std.proofs.Common.{◌∷◌, ◌++◌, [], length, take, ap, sym, ◌∙◌, arith}
use Rattle.std.proofs.Math.Seq.{take-append_seam}
use Rattle.bd_base.specs.Bits.{row_of}
use Rattle.bd_base.proofs.TrimLemmas.{take_less}
use Rattle.bd_base.proofs.WordLemmas.{row_zero}
use Rattle.bd_base.proofs.places.trimmed.Goals as goal

pub loop-last-preserved : goal.loop-last-preserved
loop-last-preserved c =
    let inv = c.loop-last.invariant in
    let split = c.in-Some.ensures.cases in
    let rest = c.in-Some.rest.now in
    record {
      same = sym (row_zero rest 0) ∙ sym (ap (row_of 0) (split.0 ∙ ap (λ z. rest ++ z ∷ []) c.if-last-ne0.false)) ∙ inv.same;
      short = omega (arith, split.1, inv.short);
      part = sym (take-append_seam rest _) ∙ ap (take (length rest)) (sym split.0 ∙ inv.part) ∙ take_less (length rest) (length c.loop-last.kept.now) _ (omega (arith, split.1));
    }
