use Rattle.std.proofs.Common.{◌≡◌, ◌++◌, true, List, ℕ, IfOk, ap, sym, subst, ◌∙◌}
use Rattle.bd_base.specs.Bits.{row_of}
use Rattle.bd_base.specs.Facts.{remove_fact}
use Rattle.bd_base.specs.Pairs.{without_pair}
use Rattle.bd_base.specs.Rows.{pairs_with}
use Rattle.bd_base.proofs.RowLemmas.{without_same, without_other}
use Rattle.bd_base.proofs.SetLemmas.{clear_single}
use Rattle.bd_base.proofs.rows.Rows.push_without.Goals as goal

pub returns-then-at-pair : goal.returns-then-at-pair
returns-then-at-pair c =
    subst (λ (z : List (ℕ × ℕ)). IfOk c.push_row.result (λ took. took ≡ true → c.push_row.new.self ≡ c.args.self.now ++ z))
    (sym (without_other c.args.at c.args.pair.0 c.args.pair.1 (row_of 0 c.args.row.now) c.if-at-pair.true)) c.push_row.ensures.took

pub returns : goal.returns
returns c =
    let at = c.args.at in
    let j = c.args.pair.1 in
    let row = row_of 0 c.args.row.now in
    let left : row_of 0 c.trimmed.result.now ≡ remove_fact j row =
    c.trimmed.ensures.same ∙ ap (row_of 0) c.deref.ensures.value ∙ c.clear_word.ensures.cleared
    ∙ clear_single (row_of 0 c.in_ok-left.left.items) j ∙ ap (λ (z : List ℕ). remove_fact j (row_of 0 z)) c.in_ok-left.ensures.items in
    subst (λ (z : List (ℕ × ℕ)). IfOk c.push_row-2.result (λ took. took ≡ true → c.push_row-2.new.self ≡ c.args.self.now ++ z))
    (ap (pairs_with at) left ∙ sym (without_same at j row) ∙ ap (λ z. without_pair z j (pairs_with at row)) c.if-at-pair.false) c.push_row-2.ensures.took
