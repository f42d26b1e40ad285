use Rattle.std.proofs.Common.{◌≡◌, ◌+◌, ◌≤◌, length, get_or, sym, ap, ◌∙◌, subst, arith}
use Rattle.bd_base.specs.Bits.{row_of}
use Rattle.bd_base.specs.Rows.{words_at}
use Rattle.bd_base.specs.declared.spans.Span.{Span}
use Rattle.bd_base.proofs.RowLemmas.{AreSpans-at}
use Rattle.bd_base.proofs.TrimLemmas.{pairs_shortened, fits_shortened, turn_shortened}
use Rattle.bd_base.proofs.spans.cut_row.Goals as goal

pub shortened-cut-requires : goal.shortened-cut-requires
shortened-cut-requires c =
    let s = c.index-row.result.now in
    subst (λ (z : Span). (z.start ≤ z.end) × (z.end ≤ length c.args.words.now) × (z.end ≤ z.start + 128)) (sym c.index-row.ensures)
    (AreSpans-at (length c.args.words.now) c.args.spans.now.items c.args.k s c.requires.fits c.requires.there)

pub returns-clause-same : goal.returns-clause-same
returns-clause-same c = λ i.
    let s = c.index-row.result.now in
    pairs_shortened c.args.words.now i c.args.spans.now.items c.args.k s c.shortened-cut.result
    (c.shortened-cut.ensures.same ∙ ap (λ (z : Span). row_of 0 (words_at c.args.words.now z)) c.index-row.ensures)

pub returns-clause-fits : goal.returns-clause-fits
returns-clause-fits c =
    let s = c.index-row.result.now in
    let fit : (s.start ≤ s.end) × (s.end ≤ length c.args.words.now) × (s.end ≤ s.start + 128) =
    subst (λ (z : Span). (z.start ≤ z.end) × (z.end ≤ length c.args.words.now) × (z.end ≤ z.start + 128)) (sym c.index-row.ensures)
    (AreSpans-at (length c.args.words.now) c.args.spans.now.items c.args.k s c.requires.fits c.requires.there) in
    let start = c.shortened-cut.ensures.start in
    let end = c.shortened-cut.ensures.end in
    fits_shortened (length c.args.words.now) c.args.spans.now.items c.args.k c.shortened-cut.result
    (end.0, omega (arith, end.1, fit.1), omega (arith, start, end.1, fit.2)) c.requires.fits

pub returns-clause-in_turn : goal.returns-clause-in_turn
returns-clause-in_turn c = λ from t.
    let s = c.index-row.result.now in
    let is : s ≡ get_or c.args.spans.now.items c.args.k s = c.index-row.ensures in
    turn_shortened from c.args.spans.now.items c.args.k s c.shortened-cut.result
    (c.shortened-cut.ensures.start ∙ ap (λ (z : Span). z.start) is)
    (subst (λ (z : Span). c.shortened-cut.result.end ≤ z.end) is c.shortened-cut.ensures.end.1) t
