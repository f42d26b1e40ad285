use Rattle.std.proofs.Common.{◌-◌, List, ℕ, length, sym, ap, ◌∙◌, arith}
use Rattle.bd_base.specs.Bits.{row_of}
use Rattle.bd_base.specs.Pairs.{after_of}
use Rattle.bd_base.specs.Rows.{words_at}
use Rattle.bd_base.proofs.RowLemmas.{after-below, after_none, after_some, span_fits}
use Rattle.bd_base.proofs.rows.Rows.row.Goals as goal

pub returns-then-i-self-clause-row : goal.returns-then-i-self-clause-row
returns-then-i-self-clause-row c =
    let r = c.self.inside in
    sym (ap (λ (z : List (ℕ × ℕ)). after_of z c.args.i) (sym c.self.view_is) ∙ after-below r.words.items r.first c.args.i r.spans.items (omega arith))

pub part_of-requires : goal.part_of-requires
part_of-requires c =
    let r = c.self.inside in
    let h = c.in-Some.ensures.lookup in
    let fits = span_fits (length r.words.items) (c.args.i - r.first) r.spans.items c.deref.result.now c.in-Some.span.now c.deref.ensures.value c.self.invariant.1 h.3.0 (h.3.1 c.in-Some.span.now) in
    (fits.0, omega (arith, fits.1, ap (λ (z : List ℕ). length z) c.deref-in-Some.ensures.value), fits.2)

pub returns-in-None-clause-row : goal.returns-in-None-clause-row
returns-in-None-clause-row c =
    let r = c.self.inside in
    sym (ap (λ (z : List (ℕ × ℕ)). after_of z c.args.i) (sym c.self.view_is)
    ∙ after_none r.words.items r.first c.args.i r.spans.items c.deref.result.now c.deref.ensures.value c.if-i-self.false c.in-None.ensures.lookup.3)

pub returns-in-Some-clause-row : goal.returns-in-Some-clause-row
returns-in-Some-clause-row c =
    let r = c.self.inside in
    let h = c.in-Some.ensures.lookup in
    let words = c.deref-in-Some.ensures.value in
    ap (row_of 0) (c.part_of.ensures.value ∙ ap (λ (z : List ℕ). words_at z c.in-Some.span.now) words)
    ∙ sym (ap (λ (z : List (ℕ × ℕ)). after_of z c.args.i) (sym c.self.view_is)
    ∙ after_some r.words.items r.first c.args.i r.spans.items c.deref.result.now c.deref.ensures.value c.if-i-self.false c.in-Some.span.now h.3.0 (h.3.1 c.in-Some.span.now))
