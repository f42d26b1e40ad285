use Rattle.std.proofs.Common.{◌<◌, List, ℕ, length, get_or, take, ap, sym, ◌∙◌, arith}
use Rattle.std.proofs.lemmas.Grind.{take_at_read}
use Rattle.bd_base.specs.Bits.{row_of}
use Rattle.bd_base.specs.Rows.{pairs_of}
use Rattle.bd_base.specs.declared.spans.Span.{Span}
use Rattle.bd_base.proofs.RowLemmas.{count_row, seen_fits, seen_part}
use Rattle.bd_base.proofs.rows.Rows.len.Goals as goal

pub part_of-requires : goal.part_of-requires
part_of-requires c =
    let r = c.self.inside in
    seen_fits r.words.items c.deref.result.now r.spans.items c.deref-span-items.result.now c.loop-span.span-index (record { start = 0; end = 0 })
    c.deref.ensures.value c.deref-span-items.ensures.value c.self.invariant.1 (omega arith)

pub loop-span-preserved : goal.loop-span-preserved
loop-span-preserved c =
    let r = c.self.inside in
    let i = c.loop-span.span-index in
    let d : Span = record { start = 0; end = 0 } in
    let spans = r.spans.items in
    let lt : i < length spans = omega (arith, ap (λ (z : List Span). length z) c.deref-span-items.ensures.value) in
    let part = ap (λ (z : List ℕ). length (row_of 0 z)) (seen_part r.words.items c.deref.result.now spans c.deref-span-items.result.now i d c.deref.ensures.value c.deref-span-items.ensures.value c.part_of.result.now c.part_of.ensures.value) in
    record {
      counted = count_row r.words.items r.first (take i spans) (get_or spans i d) c.loop-span.n c.count_places-n.result c.loop-span.invariant.counted (c.count_places-n.ensures.counted ∙ part)
          ∙ ap (λ (z : List Span). length (pairs_of r.words.items r.first z)) (sym (take_at_read spans i d lt).1);
      few = omega (arith, c.count_places-n.ensures.few, c.part_of.ensures.short, c.loop-span.invariant.few);
    }
