use Rattle.std.proofs.Common.{◌≡◌, ◌-◌, ◌*◌, ◌<◌, ◌∷◌, ◌++◌, [], min, length, get_or, take, false, refl, ap, sym, ◌∙◌, arith, length-take-le}
use Rattle.std.proofs.lemmas.Bool.{both_ways}
use Rattle.std.proofs.lemmas.Grind.{take_at_read}
use Rattle.bd_base.specs.Bits.{row_of, upto}
use Rattle.bd_base.proofs.WordLemmas.{run_more, take_whole}
use Rattle.bd_base.proofs.RunLemmas.{run_word_is, run_all}
use Rattle.bd_base.proofs.places.is_run.Goals as goal

pub returns-then-word-run_word : goal.returns-then-word-run_word
returns-then-word-run_word c = (
  λ h. absurd (both_ways false refl h),
  λ h. absurd (c.if-word-run_word.true
      (run_word_is c.args.words.now c.loop-w.w c.run_word.result c.args.from c.args.to c.requires.order (c.type_inv.words c.loop-w.w).fits c.run_word.type_inv h c.run_word.ensures)),
)

pub loop-w-preserved : goal.loop-w-preserved
loop-w-preserved c =
    let words = c.args.words.now in
    let w = c.loop-w.w in
    let lt : w < length words = omega arith in
    let same : c.run_word.result ≡ get_or words w 0 = sym c.if-word-run_word.false in
    ap (row_of 0) ((take_at_read words w 0 lt).1 ∙ ap (λ z. take w words ++ z ∷ []) (sym same))
    ∙ run_more (take w words) c.args.from c.args.to w c.run_word.result c.requires.order (length-take-le w words (omega arith)) c.loop-w.invariant c.run_word.ensures

pub returns-else-from-to : goal.returns-else-from-to
returns-else-from-to c =
    let words = c.args.words.now in
    let end : c.loop-w.w ≡ length words = omega arith in
    let all = take_whole words c.loop-w.w (omega arith) in
    run_all words c.args.from c.args.to c.requires.order c.if-from-to.false
    (sym (ap (row_of 0) all) ∙ c.loop-w.invariant ∙ ap (λ z. upto c.args.from (min (64 * z) c.args.to - c.args.from)) end)
