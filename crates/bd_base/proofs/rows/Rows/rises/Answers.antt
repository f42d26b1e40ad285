use Rattle.std.proofs.Common.{◌<◌, List, length, refl, ap, sym, ◌∙◌, arith}
use Rattle.bd_base.specs.Pairs.{have_rising_pairs}
use Rattle.bd_base.specs.declared.spans.Span.{Span}
use Rattle.bd_base.proofs.RowLemmas.{rises_at, seen_fits, seen_part}
use Rattle.bd_base.proofs.rows.Rows.rises.Goals as goal

pub part_of-requires : goal.part_of-requires
part_of-requires c =
    let r = c.self.inside in
    seen_fits r.words.items c.deref.result.now r.spans.items c.deref-span-items.result.now c.loop-k.k (record { start = 0; end = 0 })
    c.deref.ensures.value c.deref-span-items.ensures.value c.self.invariant.1 (omega arith)

pub returns-then-not-are_above : goal.returns-then-not-are_above
returns-then-not-are_above c =
    let r = c.self.inside in
    let k = c.loop-k.k in
    let d : Span = record { start = 0; end = 0 } in
    let lt : k < length r.spans.items = omega (arith, ap (λ (z : List Span). length z) c.deref-span-items.ensures.value) in
    let part = seen_part r.words.items c.deref.result.now r.spans.items c.deref-span-items.result.now k d c.deref.ensures.value c.deref-span-items.ensures.value c.part_of.result.now c.part_of.ensures.value in
    sym (ap have_rising_pairs (sym c.self.view_is) ∙ sym c.loop-k.invariant
    ∙ rises_at r.words.items c.part_of.result.now r.first k r.spans.items d lt part c.are_above.result c.are_above.ensures ∙ rw c.if-not-are_above.true refl)

pub loop-k-preserved : goal.loop-k-preserved
loop-k-preserved c =
    let r = c.self.inside in
    let k = c.loop-k.k in
    let d : Span = record { start = 0; end = 0 } in
    let lt : k < length r.spans.items = omega (arith, ap (λ (z : List Span). length z) c.deref-span-items.ensures.value) in
    let part = seen_part r.words.items c.deref.result.now r.spans.items c.deref-span-items.result.now k d c.deref.ensures.value c.deref-span-items.ensures.value c.part_of.result.now c.part_of.ensures.value in
    sym (rises_at r.words.items c.part_of.result.now r.first k r.spans.items d lt part c.are_above.result c.are_above.ensures ∙ rw c.if-not-are_above.false refl) ∙ c.loop-k.invariant
