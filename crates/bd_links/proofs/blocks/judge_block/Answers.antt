use Rattle.std.proofs.Common.{◌≡◌, length, Option, sym, ap, ◌∙◌, subst}
use Rattle.std.specs.List.{enumerate_from}
use Rattle.bd_base.specs.Pairs.{total_order}
use Rattle.bd_links.specs.declared.parts.Effects.{Effects}
use Rattle.bd_links.specs.declared.parts.Fault.{Fault}
use Rattle.bd_links.specs.Effects.{block_effects}
use Rattle.bd_links.specs.Faults.{block_fault}
use Rattle.bd_links.specs.InTurn.{no_effects, turns}
use Rattle.bd_links.specs.Judged.{Judges}
use Rattle.bd_links.proofs.Passes.{block_effects_in_turn, block_fault_in_turn}
use Rattle.bd_links.proofs.blocks.judge_block.Goals as goal

pub returns-then-is_total : goal.returns-then-is_total
returns-then-is_total c =
    let kids = c.args.kids.now in
    let block = c.args.block in
    let total : c.args.order.now ≡ total_order (length kids) = c.is_total.ensures.0 c.if-is_total.true in
    let fault = ap (λ z. block_fault block z (enumerate_from 0 kids)) total ∙ block_fault_in_turn kids block in
    let effects = ap (λ z. block_effects z (enumerate_from 0 kids)) total ∙ block_effects_in_turn kids in
    subst (λ (f : Option Fault). Judges f (block_effects c.args.order.now (enumerate_from 0 kids)) c.judge_in_turn.result) (sym fault)
    (subst (λ (z : Effects). Judges (Rattle.bd_links.specs.InTurn.turns_fault block no_effects kids) z c.judge_in_turn.result) (sym effects) c.judge_in_turn.ensures)
