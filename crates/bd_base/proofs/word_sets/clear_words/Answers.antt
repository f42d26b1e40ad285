use Rattle.std.proofs.Common.{◌∙◌, ap, sym, arith, ◌*◌}
use Rattle.bd_base.specs.Bits.{row_of}
use Rattle.bd_base.specs.Facts.{minus}
use Rattle.bd_base.proofs.SetLemmas.{minus_step, drop_all}
use Rattle.bd_base.proofs.word_sets.clear_words.Goals as goal

pub loop-n-preserved : goal.loop-n-preserved
loop-n-preserved c =
    let inv = c.loop-n.invariant in
    record {
      left = minus_step (row_of 0 c.loop-n.words.items) (row_of 0 c.clear_word.new.words.items) c.args.others.now c.loop-n.n (omega arith) c.clear_word.ensures.cleared ∙ inv.left;
      len = c.clear_word.ensures.len ∙ inv.len;
    }

pub returns-clause-cleared : goal.returns-clause-cleared
returns-clause-cleared c = ap (λ z. minus (row_of 0 c.loop-n.words.items) (row_of (64 * c.loop-n.n) z)) (sym (drop_all c.args.others.now c.loop-n.n (omega arith))) ∙ c.loop-n.invariant.left
