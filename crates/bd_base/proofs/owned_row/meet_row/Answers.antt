use Rattle.std.proofs.Common.{◌<◌, ◌/◌, ◌&&◌, ◌∙◌, length, length-set, inl, inr, ap, sym, arith}
use Rattle.std.proofs.lemmas.Bool.{cases_eq, cases_lt}
use Rattle.std.proofs.lemmas.Grind.{get_or_default_zero}
use Rattle.bd_base.specs.Bits.{row_of}
use Rattle.bd_base.specs.Facts.{has}
use Rattle.bd_base.proofs.SetLemmas.{rising-row, and_none}
use Rattle.bd_base.proofs.WordLemmas.{row_end}
use Rattle.bd_base.proofs.MeetLemmas.{met_here, met_other, filter_by}
use Rattle.bd_base.proofs.owned_row.meet_row.Goals as goal

pub loop-n-preserved : goal.loop-n-preserved
loop-n-preserved c =
    let words = c.loop-n.words.items in
    let of = c.args.of.now in
    let n = c.loop-n.n in
    let inv = c.loop-n.invariant in
    let lt : n < length words = omega (arith, inv.len) in
    let is = c.index.ensures ∙ get_or_default_zero words n c.index.result.now lt in
    record {
      done = λ q l. elim (cases_eq n (q / 64)) [
        | inl e ↦ met_here words of n c.word.result c.index.result.now lt is c.word.ensures q e ∙ ap (λ z. has of q && z) (inv.left q (omega arith))
        | inr ne ↦ met_other words of n c.word.result c.index.result.now lt is c.word.ensures q ne ∙ inv.done q (omega arith)
      ];
      left = λ q l. met_other words of n c.word.result c.index.result.now lt is c.word.ensures q (omega arith) ∙ inv.left q (omega arith);
      len = length-set words n _ ∙ inv.len;
    }

pub returns-clause-kept : goal.returns-clause-kept
returns-clause-kept c =
    let old = c.args.words.now.items in
    let words = c.loop-n.words.items in
    let of = c.args.of.now in
    filter_by (row_of 0 old) (row_of 0 words) (has of) (rising-row old 0) (rising-row words 0) (λ q. elim (cases_lt (q / 64) c.loop-n.n) [
      | inl l ↦ c.loop-n.invariant.done q l
      | inr g ↦
          let end = c.loop-n.invariant.len in
          row_end words q (omega arith) ∙ sym (ap (λ z. has of q && z) (row_end old q (omega arith)) ∙ and_none (has of q))
    ])
