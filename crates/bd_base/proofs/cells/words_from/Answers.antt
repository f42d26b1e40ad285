use Rattle.std.proofs.Common.{◌≡◌, ◌+◌, ◌<◌, List, ℕ, length, length-append, ap, ◌∙◌, arith}
use Rattle.bd_base.specs.Bits.{row_of}
use Rattle.bd_base.specs.declared.cells.Cell.{Cell}
use Rattle.bd_base.proofs.CellLemmas.{word_made, word_ahead, wide_long, wide_low}
use Rattle.bd_base.proofs.cells.words_from.Goals as goal

pub loop-cell-preserved : goal.loop-cell-preserved
loop-cell-preserved c =
    let words = c.loop-cell.words.items in
    let wide = c.widen.new.words.items in
    let i = c.loop-cell.cell-index in
    let d : Cell = record { number = 0; word = 0 } in
    let cells = c.args.cells.now in
    let lt : i < length cells = omega arith in
    let inv = c.loop-cell.invariant in
    let same = c.in_ok-widen.ensures.same in
    let long = c.in_ok-widen.ensures.len in
    let pushed = c.in_ok-push.ensures.items in
    let longer : length c.push.new.self.items ≡ length wide + 1 = ap (λ (z : List ℕ). length z) pushed ∙ length-append _ _ in
    record {
      made = ap (row_of 0) pushed ∙ word_made words wide cells i d lt inv.made inv.ahead same long;
      short = let a = wide_long words wide cells i d lt inv.made inv.ahead same long in let b = wide_low words wide cells i d lt inv.made inv.ahead same long in omega arith;
      ahead = word_ahead words wide cells i d lt inv.made inv.ahead same long (length c.push.new.self.items) longer;
    }
