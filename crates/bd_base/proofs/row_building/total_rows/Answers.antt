use Rattle.std.proofs.Common.{◌≡◌, ◌+◌, ◌-◌, ◌++◌, List, ℕ, min, true, ap, sym, ◌∙◌, arith}
use Rattle.bd_base.specs.Bits.{row_of, upto}
use Rattle.bd_base.specs.Pairs.{in_turn}
use Rattle.bd_base.specs.Rows.{pairs_with}
use Rattle.bd_base.proofs.RowLemmas.{with_upto, append-none}
use Rattle.bd_base.proofs.PairLemmas.{in_turn-more, in_turn-last}
use Rattle.bd_base.proofs.RunLemmas.{run_without}
use Rattle.bd_base.proofs.row_building.total_rows.Goals as goal

pub loop-i-preserved : goal.loop-i-preserved
loop-i-preserved c =
    let i = c.loop-i.i in
    let n = c.args.n in
    let inv = c.loop-i.invariant in
    let took : c.in_ok-push_row.field-0 ≡ true = c.if-not-branch.false in
    let at : min n (i + 1) ≡ i + 1 = omega arith in
    let run : row_of 0 c.loop-i.row.items ≡ upto (i + 1) (n - (i + 1)) = inv.row ∙ ap (λ z. upto z (n - z)) at in
    let row = ap (pairs_with i) (ap (row_of 0) c.deref.ensures.value ∙ run) in
    record {
      row = c.clear_word.ensures.cleared ∙ run_without (row_of 0 c.loop-i.row.items) i n (omega arith) run;
      short = omega (arith, c.clear_word.ensures.len);
      made = ap (λ (z : List (ℕ × ℕ)). z ++ in_turn (i + 1) (n - (i + 1))) (c.in_ok-push_row.ensures.took took ∙ ap (λ (z : List (ℕ × ℕ)). c.loop-i.rows ++ z) (row ∙ with_upto i (i + 1) (n - (i + 1))))
          ∙ in_turn-more c.loop-i.rows i n (omega arith) ∙ inv.made;
    }

pub returns : goal.returns
returns c =
    sym (append-none c.loop-i.rows) ∙ ap (λ (z : List (ℕ × ℕ)). c.loop-i.rows ++ z) (sym (in_turn-last c.loop-i.i (c.args.n - c.loop-i.i) (omega arith))) ∙ c.loop-i.invariant.made
