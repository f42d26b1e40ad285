use Rattle.std.proofs.Common.{◌<◌, ◌∙◌, sym, arith}
use Rattle.bd_base.proofs.MeetLemmas.{tested_in, tested_left, tested_out}
use Rattle.bd_base.proofs.row.Row.tested_word.Goals as goal
use Rattle.bd_base.proofs.row.Row.tested_word.Goals.{then-has, else-has}

pub loop-b-preserved : goal.loop-b-preserved
loop-b-preserved c =
    let own = c.args.self.now in
    let n = c.args.n in
    let b = c.loop-b.b in
    let inv = c.loop-b.invariant in
    let low : b < 64 = omega arith in
    elim c.if-has.branch [
      | then-has w ↦ rw w.word-is (record {
        done = tested_in own n c.loop-b.word b low inv.done inv.left (sym c.has.ensures ∙ w.if-has.true);
        left = tested_left own n c.loop-b.word b low inv.done inv.left;
      })
      | else-has w ↦ rw w.word-is (record {
        done = tested_out own n c.loop-b.word b low inv.done inv.left (sym c.has.ensures ∙ w.if-has.false);
        left = λ i le. inv.left i (omega arith);
      })
    ]
