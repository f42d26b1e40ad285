use Rattle.std.proofs.Common.{◌≡◌, ℕ, ◌+◌, ◌<◌, List, length, get_or, drop, None, sym, ap, ◌∙◌}
use Rattle.std.specs.List.{find}
use Rattle.std.specs.Option.{option_or}
use Rattle.bd_base.specs.Facts.{has}
use Rattle.bd_links.specs.declared.parts.Effects.{Effects}
use Rattle.bd_links.specs.Child.{Child}
use Rattle.bd_links.specs.Faults.{inside}
use Rattle.bd_links.specs.InTurn.{turn, turns, turns_fault}
use Rattle.bd_links.proofs.Steps.{drop-at}
use Rattle.bd_links.proofs.in_turn.judge_in_turn.Goals as goal

module _ (block : ℕ) (e t : Effects) (kids : List Child) (i : ℕ) (kid : Child) (lt : i < length kids) (is : kid ≡ get_or kids i kid) (took : t ≡ turn e kid.effects) where
  turn_more : turns t (drop (i + 1) kids) ≡ turns e (drop i kids)
  turn_more = ap (λ z. turns z (drop (i + 1) kids)) took ∙ sym (ap (turns e) (drop-at kids i kid lt is))

  fault_more : find (has e.del) kid.effects.need ≡ None → turns_fault block t (drop (i + 1) kids) ≡ turns_fault block e (drop i kids)
  fault_more none =
      ap (λ z. turns_fault block z (drop (i + 1) kids)) took
      ∙ sym (ap (turns_fault block e) (drop-at kids i kid lt is) ∙ ap (λ z. option_or (inside block kid.id z) (turns_fault block (turn e kid.effects) (drop (i + 1) kids))) none)

pub loop-kid-preserved : goal.loop-kid-preserved
loop-kid-preserved c =
    let inv = c.loop-kid.invariant in
    record {
      effects = turn_more c.args.block _ _ _ _ _ c.loop-kid-test.true c.kid-item.is c.in_ok-take_turn-in-None.ensures ∙ inv.effects;
      fault = fault_more c.args.block _ _ _ _ _ c.loop-kid-test.true c.kid-item.is c.in_ok-take_turn-in-None.ensures (ap (find (has c.loop-kid.e.del)) (sym c.need.ensures) ∙ sym c.in-None.ensures) ∙ inv.fault;
    }
