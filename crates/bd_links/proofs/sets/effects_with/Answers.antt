use Rattle.std.proofs.Common.{◌≡◌, ◌∙◌, List, ℕ, ap}
use Rattle.std.specs.List.{enumerate_from}
use Rattle.bd_base.specs.Facts.{minus}
use Rattle.bd_links.specs.Effects.{all_facts, block_effects}
use Rattle.bd_links.specs.declared.parts.Effects.{Effects}
use Rattle.bd_links.proofs.RowLemmas.{dels_same}
use Rattle.bd_links.proofs.sets.effects_with.Goals as goal

made : (e : Effects) (need add del : List ℕ) → need ≡ e.need → add ≡ e.add → del ≡ e.del → record { need = need; add = add; del = del } ≡ e
made e need add del n a d =
    ap (λ z. record { need = z; add = add; del = del }) n
    ∙ ap (λ z. record { need = e.need; add = z; del = del }) a
    ∙ ap (λ z. record { need = e.need; add = e.add; del = z }) d

pub returns : goal.returns
returns c =
    let kids = enumerate_from 0 c.args.kids.now in
    let order = c.args.order.now in
    made (block_effects order kids) _ _ _ c.requires.need c.in_ok-add.ensures
    (c.minus.ensures ∙ ap (λ z. minus z c.in_ok-add.add) c.in_ok-del.ensures
    ∙ ap (λ z. minus (all_facts (λ (e : Effects). e.del) kids) z) c.in_ok-add.ensures
    ∙ dels_same order kids)
