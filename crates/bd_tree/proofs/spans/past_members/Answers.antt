use Rattle.std.proofs.Common.{◌≡◌, ◌-◌, get_or, drop, true, ap, sym, ◌∙◌, arith}
use Rattle.bd_base.specs.Facts.{has}
use Rattle.bd_tree.specs.declared.node.Node.{Node}
use Rattle.bd_tree.specs.Convex.{has_member}
use Rattle.bd_tree.specs.Tree.{id_of}
use Rattle.bd_tree.proofs.SpanLemmas.{any_last_at, any_nowhere}
use Rattle.bd_tree.proofs.spans.past_members.Goals as goal

pub returns-then-has-clause-behind : goal.returns-then-has-clause-behind
returns-then-has-clause-behind c =
    let ids = c.args.members.now in
    let kid = c.index-kids-at.result in
    let here : has ids (id_of (get_or c.args.kids.now (c.loop-at.at - 1) kid)) ≡ true =
    ap (λ (z : Node). has ids (id_of z)) (sym c.index-kids-at.is) ∙ ap (has ids) (sym c.id.ensures) ∙ sym c.has.ensures ∙ c.if-has.true in
    any_last_at (λ (k : Node). has ids (id_of k)) c.args.kids.now c.loop-at.at kid (omega arith) (omega arith) here c.loop-at.invariant

pub returns-clause-behind : goal.returns-clause-behind
returns-clause-behind c =
    let start : c.loop-at.at ≡ 0 = omega arith in
    any_nowhere (λ (k : Node). has c.args.members.now (id_of k)) c.args.kids.now (ap (λ z. has_member c.args.members.now (drop z c.args.kids.now)) (sym start) ∙ c.loop-at.invariant)
