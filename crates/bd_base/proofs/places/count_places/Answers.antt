use Rattle.std.proofs.Common.{◌<◌, ◌^◌, List, ℕ, length, get_or, take, ap, sym, ◌∙◌, arith}
use Rattle.std.proofs.lemmas.Grind.{take_at_read}
use Rattle.bd_base.specs.Bits.{row_of}
use Rattle.bd_base.proofs.WordLemmas.{count_more, few_ones}
use Rattle.bd_base.proofs.places.count_places.Goals as goal

pub loop-word-preserved : goal.loop-word-preserved
loop-word-preserved c =
    let words = c.args.words.now in
    let i = c.loop-word.word-index in
    let small : get_or words i 0 < 2 ^ 64 = (c.type_inv.words i).fits in
    let lt : i < length words = omega arith in
    record {
      counted = count_more (take i words) (get_or words i 0) c.loop-word.n small c.loop-word.invariant.counted ∙ ap (λ (z : List ℕ). length (row_of 0 z)) (sym (take_at_read words i 0 lt).1);
      few = omega (arith, few_ones (get_or words i 0) small, c.loop-word.invariant.few);
    }
