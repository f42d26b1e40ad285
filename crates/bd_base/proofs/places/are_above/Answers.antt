use Rattle.std.proofs.Common.{◌<◌, ◌*◌, ltb, length, get_or, refl, ap, sym, ◌∙◌, arith}
use Rattle.std.specs.List.{list_all}
use Rattle.std.proofs.lemmas.Bool.{ne_eqb, eq-eqb}
use Rattle.bd_base.specs.Bits.{row_of}
use Rattle.bd_base.proofs.SetLemmas.{all_row, drop_all}
use Rattle.bd_base.proofs.RunLemmas.{above_word}
use Rattle.bd_base.proofs.places.are_above.Goals as goal

pub returns-then-run_word-word-ne0 : goal.returns-then-run_word-word-ne0
returns-then-run_word-word-ne0 c =
    let at = c.args.at in
    let w = c.loop-w.w in
    let lt : w < length c.args.words.now = omega arith in
    let test = above_word at w c.run_word.result (get_or c.args.words.now w 0) c.run_word.type_inv c.run_word.ensures in
    sym (sym c.loop-w.invariant ∙ all_row (ltb at) c.args.words.now w lt ∙ rw (test, ne_eqb _ 0 c.if-run_word-word-ne0.true) refl)

pub loop-w-preserved : goal.loop-w-preserved
loop-w-preserved c =
    let at = c.args.at in
    let w = c.loop-w.w in
    let lt : w < length c.args.words.now = omega arith in
    let test = above_word at w c.run_word.result (get_or c.args.words.now w 0) c.run_word.type_inv c.run_word.ensures in
    sym (all_row (ltb at) c.args.words.now w lt ∙ rw (test, eq-eqb _ 0 c.if-run_word-word-ne0.false) refl) ∙ c.loop-w.invariant

pub returns : goal.returns
returns c = sym (ap (λ z. list_all (ltb c.args.at) (row_of (64 * c.loop-w.w) z)) (drop_all c.args.words.now c.loop-w.w (omega arith))) ∙ c.loop-w.invariant
