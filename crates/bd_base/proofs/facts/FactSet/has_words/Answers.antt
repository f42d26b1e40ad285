use Rattle.std.proofs.Common.{◌<◌, ◌*◌, length, get_or, ◌∙◌, ap, sym, refl, arith}
use Rattle.std.proofs.lemmas.Bool.{ne_eqb, eq-eqb}
use Rattle.bd_base.specs.Bits.{row_of}
use Rattle.bd_base.specs.Facts.{has, is_subset}
use Rattle.bd_base.proofs.SetLemmas.{all_row, all_word, drop_all}
use Rattle.bd_base.proofs.facts.FactSet.has_words.Goals as goal

pub returns-then-word-ne0 : goal.returns-then-word-ne0
returns-then-word-ne0 c =
    let own = c.args.self.now in
    let n = c.loop-n.n in
    let lt : n < length c.args.words.now = omega arith in
    let test = all_word own n c.word.result (get_or c.args.words.now n 0) c.word.type_inv c.word.ensures in
    sym (sym c.loop-n.invariant ∙ all_row (has own) c.args.words.now n lt ∙ rw (test, ne_eqb _ 0 c.if-word-ne0.true) refl)

pub loop-n-preserved : goal.loop-n-preserved
loop-n-preserved c =
    let own = c.args.self.now in
    let n = c.loop-n.n in
    let lt : n < length c.args.words.now = omega arith in
    let test = all_word own n c.word.result (get_or c.args.words.now n 0) c.word.type_inv c.word.ensures in
    sym (all_row (has own) c.args.words.now n lt ∙ rw (test, eq-eqb _ 0 c.if-word-ne0.false) refl) ∙ c.loop-n.invariant

pub returns : goal.returns
returns c = sym (ap (λ z. is_subset (row_of (64 * c.loop-n.n) z) c.args.self.now) (drop_all c.args.words.now c.loop-n.n (omega arith))) ∙ c.loop-n.invariant
