use Rattle.std.proofs.Common.{◌≡◌, IfOk, length, sym, ap, ◌∙◌, subst}
use Rattle.std.specs.List.{enumerate_from}
use Rattle.bd_base.specs.Pairs.{total_order}
use Rattle.bd_links.specs.declared.parts.Effects.{Effects}
use Rattle.bd_links.specs.Effects.{block_effects}
use Rattle.bd_links.proofs.Passes.{block_effects_in_turn}
use Rattle.bd_links.proofs.blocks.effects_of_block.Goals as goal

pub returns-then-is_total : goal.returns-then-is_total
returns-then-is_total c =
    let kids = c.args.kids.now in
    let total : c.args.order.now ≡ total_order (length kids) = c.is_total.ensures.0 c.if-is_total.true in
    subst (λ (z : Effects). IfOk c.effects_in_turn.result (λ e. e ≡ z)) (sym (ap (λ z. block_effects z (enumerate_from 0 kids)) total ∙ block_effects_in_turn kids)) c.effects_in_turn.ensures
