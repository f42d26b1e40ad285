use Rattle.std.proofs.Common.{◌+◌, ◌++◌, List, ℕ, length, ap, sym, ◌∙◌, subst, arith}
use Rattle.bd_base.specs.declared.spans.Span.{Span}
use Rattle.bd_base.specs.Bits.{row_of}
use Rattle.bd_base.specs.Rows.{pairs_with, AreInTurn, AreSpans}
use Rattle.bd_base.proofs.RowLemmas.{fits_grown, fits_added, pairs_added}
use Rattle.bd_base.proofs.RemoveLemmas.{turn_push}
use Rattle.bd_base.proofs.spans.add_row.Goals as goal

pub returns-in_err-pass_rows-clause-fits : goal.returns-in_err-pass_rows-clause-fits
returns-in_err-pass_rows-clause-fits c = c.in_err-pass_rows.ensures.fits _ c.requires.fits

pub returns-in_err-extend_from_slice-clause-fits : goal.returns-in_err-extend_from_slice-clause-fits
returns-in_err-extend_from_slice-clause-fits c =
    subst (λ (z : List ℕ). AreSpans (length z) c.pass_rows.new.spans.items) (sym c.in_err-extend_from_slice.ensures.items) (c.in_ok-pass_rows.ensures.fits _ c.requires.fits)

pub returns-in_err-push-clause-fits : goal.returns-in_err-push-clause-fits
returns-in_err-push-clause-fits c =
    let words = c.args.words.now.items in
    let fits = c.in_ok-pass_rows.ensures.fits (length words) c.requires.fits in
    subst (λ (z : List Span). AreSpans (length c.extend_from_slice.new.self.items) z) (sym c.in_err-push.ensures.items)
    (fits_grown words c.extend_from_slice.new.self.items c.args.row.now c.pass_rows.new.spans.items c.in_ok-extend_from_slice.ensures.items fits)

pub returns-clause-fits : goal.returns-clause-fits
returns-clause-fits c =
    let words = c.args.words.now.items in
    let fits = c.in_ok-pass_rows.ensures.fits (length words) c.requires.fits in
    fits_added words c.extend_from_slice.new.self.items c.args.row.now c.pass_rows.new.spans.items c.in_ok-extend_from_slice.ensures.items fits
    c.push.new.self.items _ _ c.in_ok-push.ensures.items (omega arith) (omega arith) c.requires.short

pub returns-clause-added : goal.returns-clause-added
returns-clause-added c = λ i.
    let words = c.args.words.now.items in
    let fits = c.in_ok-pass_rows.ensures.fits (length words) c.requires.fits in
    pairs_added words c.extend_from_slice.new.self.items c.args.row.now c.pass_rows.new.spans.items c.in_ok-extend_from_slice.ensures.items fits
    c.push.new.self.items _ _ c.in_ok-push.ensures.items (omega arith) (omega arith) i c.args.at (omega (arith, c.in_ok-pass_rows.ensures.few, c.in_ok-pass_rows.ensures.many))
    ∙ ap (λ (z : List (ℕ × ℕ)). z ++ pairs_with (i + c.args.at) (row_of 0 c.args.row.now)) (c.in_ok-pass_rows.ensures.same words i)

pub returns-in_err-push-clause-in_turn : goal.returns-in_err-push-clause-in_turn
returns-in_err-push-clause-in_turn c = subst (λ (z : List Span). AreInTurn 0 z) (sym c.in_err-push.ensures.items) (c.in_ok-pass_rows.ensures.in_turn 0 c.requires.in_turn)

pub returns-clause-in_turn : goal.returns-clause-in_turn
returns-clause-in_turn c =
    let words = c.args.words.now.items in
    let fits = c.in_ok-pass_rows.ensures.fits (length words) c.requires.fits in
    subst (λ (z : List Span). AreInTurn 0 z) (sym c.in_ok-push.ensures.items)
    (turn_push (length words) 0 c.pass_rows.new.spans.items _ fits (λ some. (omega arith, omega arith)) (c.in_ok-pass_rows.ensures.in_turn 0 c.requires.in_turn))
