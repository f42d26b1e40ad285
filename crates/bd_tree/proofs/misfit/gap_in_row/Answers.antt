use Rattle.std.proofs.Common.{◌∙◌, sym}
use Rattle.bd_tree.proofs.GapLemmas.{no_gap_in_row, gap_here, gap_later}
use Rattle.bd_tree.proofs.misfit.gap_in_row.Goals as goal

pub returns-then-is_full : goal.returns-then-is_full
returns-then-is_full c = sym (no_gap_in_row c.args.order.now c.args.i c.args.row.now c.requires.row (c.is_full.ensures c.if-is_full.true) _ _)

pub returns-then-is_gap : goal.returns-then-is_gap
returns-then-is_gap c = sym (sym c.loop-j.invariant ∙ gap_here c.args.order.now c.args.i c.loop-j.j c.args.n c.loop-j-test.true (sym c.is_gap.ensures ∙ c.if-is_gap.true))

pub loop-j-preserved : goal.loop-j-preserved
loop-j-preserved c = sym (gap_later c.args.order.now c.args.i c.loop-j.j c.args.n c.loop-j-test.true (sym c.is_gap.ensures ∙ c.if-is_gap.false)) ∙ c.loop-j.invariant
