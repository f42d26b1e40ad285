use Rattle.std.proofs.Common.{◌<◌, ◌*◌, length, get_or, ◌∙◌, ap, sym, refl, arith}
use Rattle.std.proofs.lemmas.Bool.{ne_eqb, eq-eqb}
use Rattle.bd_base.specs.Bits.{row_of}
use Rattle.bd_base.specs.Facts.{has, is_subset}
use Rattle.bd_base.proofs.SetLemmas.{all_row, all_test, drop_all}
use Rattle.bd_base.proofs.word_sets.words_within.Goals as goal

pub returns-then-word_at-word-ne0 : goal.returns-then-word_at-word-ne0
returns-then-word_at-word-ne0 c =
    let others = row_of 0 c.args.others.now in
    let n = c.loop-n.n in
    let lt : n < length c.args.words.now = omega arith in
    let test = all_test c.args.others.now n c.word_at.result (get_or c.args.words.now n 0) c.word_at.ensures c.word_at.type_inv in
    sym (sym c.loop-n.invariant ∙ all_row (has others) c.args.words.now n lt ∙ rw (test, ne_eqb _ 0 c.if-word_at-word-ne0.true) refl)

pub loop-n-preserved : goal.loop-n-preserved
loop-n-preserved c =
    let others = row_of 0 c.args.others.now in
    let n = c.loop-n.n in
    let lt : n < length c.args.words.now = omega arith in
    let test = all_test c.args.others.now n c.word_at.result (get_or c.args.words.now n 0) c.word_at.ensures c.word_at.type_inv in
    sym (all_row (has others) c.args.words.now n lt ∙ rw (test, eq-eqb _ 0 c.if-word_at-word-ne0.false) refl) ∙ c.loop-n.invariant

pub returns : goal.returns
returns c = sym (ap (λ z. is_subset (row_of (64 * c.loop-n.n) z) (row_of 0 c.args.others.now)) (drop_all c.args.words.now c.loop-n.n (omega arith))) ∙ c.loop-n.invariant
