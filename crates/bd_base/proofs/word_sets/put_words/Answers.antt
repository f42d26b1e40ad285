use Rattle.std.proofs.Common.{◌∙◌, ap, sym, arith, ◌*◌}
use Rattle.bd_base.specs.Bits.{row_of}
use Rattle.bd_base.specs.Facts.{plus}
use Rattle.bd_base.proofs.SetLemmas.{plus_step, drop_all}
use Rattle.bd_base.proofs.word_sets.put_words.Goals as goal

pub loop-n-preserved : goal.loop-n-preserved
loop-n-preserved c =
    let inv = c.loop-n.invariant in
    record {
      left = plus_step (row_of 0 c.loop-n.words.items) (row_of 0 c.put_word.new.words.items) c.args.others.now c.loop-n.n (omega arith) c.put_word.ensures.put ∙ inv.left;
      len = c.put_word.ensures.len ∙ inv.len;
    }

pub returns-clause-put : goal.returns-clause-put
returns-clause-put c = ap (λ z. plus (row_of 0 c.loop-n.words.items) (row_of (64 * c.loop-n.n) z)) (sym (drop_all c.args.others.now c.loop-n.n (omega arith))) ∙ c.loop-n.invariant.left
