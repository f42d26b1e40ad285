use Rattle.std.proofs.Common.{ap, ◌∙◌, ◌+◌, ◌≡◌, length, arith, List, ℕ, length-append}
use Rattle.bd_base.specs.Bits.{row_of}
use Rattle.bd_base.proofs.WordLemmas.{row_zero}
use Rattle.bd_base.proofs.places.widen.Goals as goal

pub loop-words-preserved : goal.loop-words-preserved
loop-words-preserved c =
    let inv = c.loop-words.invariant in
    let longer : length c.push.new.self.items ≡ length c.loop-words.words.items + 1 = ap (λ (z : List ℕ). length z) c.in_ok-push.ensures.items ∙ length-append _ _ in
    record {
      same = ap (row_of 0) c.in_ok-push.ensures.items ∙ row_zero c.loop-words.words.items 0 ∙ inv.same;
      many = omega arith;
      few = omega arith;
    }
