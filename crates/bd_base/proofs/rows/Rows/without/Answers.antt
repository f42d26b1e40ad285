use Rattle.std.proofs.Common.{◌<◌, ◌+◌, ◌++◌, List, ℕ, length, ap, ◌∙◌, arith}
use Rattle.bd_base.specs.Bits.{row_of}
use Rattle.bd_base.specs.Pairs.{without_pair}
use Rattle.bd_base.specs.Rows.{pairs_with}
use Rattle.bd_base.specs.declared.spans.Span.{Span}
use Rattle.bd_base.proofs.RowLemmas.{seen_fits, seen_part, without_at}
use Rattle.bd_base.proofs.rows.Rows.without.Goals as goal

pub part_of-row-requires : goal.part_of-row-requires
part_of-row-requires c =
    let r = c.self.inside in
    seen_fits r.words.items c.deref.result.now r.spans.items c.deref-span-items.result.now c.loop-k.k (record { start = 0; end = 0 })
    c.deref.ensures.value c.deref-span-items.ensures.value c.self.invariant.1 (omega arith)

pub loop-k-preserved : goal.loop-k-preserved
loop-k-preserved c =
    let r = c.self.inside in
    let i = c.args.i in
    let j = c.args.j in
    let k = c.loop-k.k in
    let d : Span = record { start = 0; end = 0 } in
    let row = c.part_of-row.result.now in
    let lt : k < length r.spans.items = omega (arith, ap (λ (z : List Span). length z) c.deref-span-items.ensures.value) in
    let part = seen_part r.words.items c.deref.result.now r.spans.items c.deref-span-items.result.now k d c.deref.ensures.value c.deref-span-items.ensures.value row c.part_of-row.ensures.value in
    c.in_ok-push_without.ensures c.if-not-branch.false
    ∙ ap (λ (z : List (ℕ × ℕ)). z ++ without_pair i j (pairs_with (r.first + k) (row_of 0 row))) c.loop-k.invariant
    ∙ without_at r.words.items row r.first k r.spans.items d lt part i j
