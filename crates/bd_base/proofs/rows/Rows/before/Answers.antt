use Rattle.std.proofs.Common.{◌∙◌, ℕ, List, [], ap, sym, arith}
use Rattle.bd_base.specs.Facts.{plus}
use Rattle.bd_base.specs.Pairs.{before_of, is_before}
use Rattle.bd_base.proofs.FactLemmas.{rising-insert_fact}
use Rattle.bd_base.proofs.BeforeLemmas.{before_in, before_left, before_out, before_all}
use Rattle.bd_base.proofs.rows.Rows.before.Goals as goal
use Rattle.bd_base.proofs.rows.Rows.before.Goals.{then-has+in_ok-put, else-has}

pub loop-i-preserved : goal.loop-i-preserved
loop-i-preserved c =
    let order = c.args.self.now in
    let row = c.loop-i.row in
    let i = c.loop-i.i in
    let j = c.args.j in
    let inv = c.loop-i.invariant in
    elim c.if-has.branch [
      | then-has+in_ok-put w ↦ rw (w.row-is, w.in_ok-put.ensures.ok) (record {
        rising = rising-insert_fact i row inv.rising;
        done = before_in order row i j inv.done inv.left (sym c.has.ensures ∙ w.if-has.true);
        left = before_left order row i j inv.done inv.left;
      })
      | else-has w ↦ rw w.row-is (record {
        rising = inv.rising;
        done = before_out order row i j inv.done inv.left (sym c.has.ensures ∙ w.if-has.false);
        left = λ k le. inv.left k (omega arith);
      })
    ]

pub returns : goal.returns
returns c =
    let r = c.self.inside in
    let j = c.args.j in
    let inv = c.loop-i.invariant in
    before_all r.words.items r.first c.loop-i.i j r.spans.items c.loop-i.row inv.rising (omega arith)
    (λ k lt. inv.done k lt ∙ ap (λ (z : List (ℕ × ℕ)). is_before z k j) (sym c.self.view_is)) inv.left
    ∙ ap (λ (z : List (ℕ × ℕ)). plus [] (before_of z j)) c.self.view_is
