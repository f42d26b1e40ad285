use Rattle.std.proofs.Common.{◌≡◌, ◌∷◌, [], false, refl, sym, ◌∙◌, arith, rules}
use Rattle.std.proofs.lemmas.Bool.{both_ways}
use Rattle.bd_base.specs.Pairs.{total_order}
use Rattle.bd_base.proofs.TurnLemmas.{no_more, first_is, second_is, next_to, next_back, left_row, walk_ends}
use Rattle.bd_base.proofs.pairs.walk_is_total.Goals as goal
use Rattle.bd_base.proofs.pairs.walk_is_total.Goals.{then-j-n-via-then-j-n, then-j-n-via-else-j-n+then-p-i, then-j-n-via-else-j-n+else-p-i+then-p-j}

pub returns-then-j-n : goal.returns-then-j-n
returns-then-j-n c =
    let n = c.args.n in
    let inv = c.loop-p.invariant in
    let split : c.loop-p.p-iterator ≡ c.in-Some.p ∷ c.next.new.self = search rules in
    let off : c.args.order.now ≡ total_order n → ⊥ = λ e. elim c.then-j-n.branch [
      | then-j-n-via-then-j-n w ↦ no_more _ _ _ _ _ _ n split inv.to w.if-j-n.true (inv.row w.if-j-n.true) e
      | then-j-n-via-else-j-n+then-p-i w ↦ let same = first_is _ _ _ _ _ _ n split inv.to w.if-j-n.false e in omega (arith, w.if-p-i.true, same)
      | then-j-n-via-else-j-n+else-p-i+then-p-j w ↦ let same = second_is _ _ _ _ _ _ n split inv.to w.if-j-n.false e in omega (arith, w.if-p-j.true, same)
    ] in
    (λ e. absurd (both_ways false refl e), λ e. absurd (off e))

pub loop-p-preserved-then-j-n-2 : goal.loop-p-preserved-then-j-n-2
loop-p-preserved-then-j-n-2 c =
    let n = c.args.n in
    let inv = c.loop-p.invariant in
    let split : c.loop-p.p-iterator ≡ c.in-Some.p ∷ c.next.new.self = search rules in
    let row = left_row c.loop-p.i c.loop-p.j n inv.ahead c.if-j-n-2.true in
    record {
      ahead = omega arith;
      row = λ h. h;
      to = λ e. next_to _ _ _ _ _ _ n split inv.to c.if-j-n.false e ∙ row;
      back = λ e. next_back _ _ _ _ _ _ n split inv.to c.if-j-n.false c.if-p-i.false c.if-p-j.false inv.back (e ∙ sym row);
    }

pub loop-p-preserved : goal.loop-p-preserved
loop-p-preserved c =
    let n = c.args.n in
    let inv = c.loop-p.invariant in
    let split : c.loop-p.p-iterator ≡ c.in-Some.p ∷ c.next.new.self = search rules in
    record {
      ahead = omega (arith, inv.ahead);
      row = λ h. omega (arith, h, c.if-j-n.false, c.if-j-n-2.false);
      to = λ e. next_to _ _ _ _ _ _ n split inv.to c.if-j-n.false e;
      back = λ e. next_back _ _ _ _ _ _ n split inv.to c.if-j-n.false c.if-p-i.false c.if-p-j.false inv.back e;
    }

pub returns : goal.returns
returns c =
    let inv = c.loop-p.invariant in
    let done : c.loop-p.p-iterator ≡ [] = search rules in
    walk_ends _ _ _ _ _ done inv.row inv.to inv.back
