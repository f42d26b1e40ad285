use Rattle.std.proofs.Common.{◌≡◌, ◌+◌, List, ℕ, length, length-append, ap, ◌∙◌, arith}
use Rattle.bd_base.proofs.WordLemmas.{run_more}
use Rattle.bd_base.proofs.places.fill_run.Goals as goal

pub loop-w-preserved : goal.loop-w-preserved
loop-w-preserved c =
    let inv = c.loop-w.invariant in
    let longer : length c.push.new.self.items ≡ length c.loop-w.words.items + 1 = ap (λ (z : List ℕ). length z) c.in_ok-push.ensures.items ∙ length-append _ _ in
    record {
      made = rw c.in_ok-push.ensures.items (run_more c.loop-w.words.items c.args.from c.args.to c.loop-w.w c.run_word.result (omega arith) inv.len inv.made c.run_word.ensures);
      len = omega arith;
    }
