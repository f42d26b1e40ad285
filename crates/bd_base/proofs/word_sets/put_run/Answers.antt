use Rattle.std.proofs.Common.{◌+◌, ◌-◌, ◌*◌, min, max, List, ℕ, ap, sym, ◌∙◌}
use Rattle.bd_base.specs.Bits.{row_of, upto}
use Rattle.bd_base.specs.Facts.{plus}
use Rattle.bd_base.proofs.SetLemmas.{plus-append}
use Rattle.bd_base.proofs.WordLemmas.{run_next}
use Rattle.bd_base.proofs.word_sets.put_run.Goals as goal

pub loop-w-preserved : goal.loop-w-preserved
loop-w-preserved c =
    let from = c.args.from in
    let to = c.args.to in
    let w = c.loop-w.w in
    let inv = c.loop-w.invariant in
    let first : List ℕ = upto from (min (64 * w) to - from) in
    let more : List ℕ = upto (max (64 * w) from) (min (64 * w + 64) to - max (64 * w) from) in
    let s = row_of 0 c.args.words.now.items in
    record {
      put = c.put_word.ensures.put ∙ ap (plus (row_of 0 c.loop-w.words.items)) c.run_word.ensures ∙ ap (λ (z : List ℕ). plus z more) inv.put
          ∙ sym (plus-append s first more) ∙ ap (plus s) (sym (run_next from to w c.requires.order));
      len = c.put_word.ensures.len ∙ inv.len;
    }
