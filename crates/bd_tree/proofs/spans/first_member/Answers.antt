use Rattle.std.proofs.Common.{◌≡◌, get_or, true, ap, sym, ◌∙◌}
use Rattle.bd_base.specs.Facts.{has}
use Rattle.bd_tree.specs.declared.node.Node.{Node}
use Rattle.bd_tree.specs.Tree.{id_of}
use Rattle.bd_tree.proofs.SpanLemmas.{any_first, any_first_none}
use Rattle.bd_tree.proofs.spans.first_member.Goals as goal

pub returns-then-has-clause-before : goal.returns-then-has-clause-before
returns-then-has-clause-before c =
    let ids = c.args.members.now in
    let kid = c.index-kids-at.result in
    let here : has ids (id_of (get_or c.args.kids.now c.loop-at.at kid)) ≡ true =
    ap (λ (z : Node). has ids (id_of z)) (sym c.index-kids-at.is) ∙ ap (has ids) (sym c.id.ensures) ∙ sym c.has.ensures ∙ c.if-has.true in
    any_first (λ (k : Node). has ids (id_of k)) c.args.kids.now c.loop-at.at kid c.loop-at.invariant (λ _. here)

pub returns-clause-before : goal.returns-clause-before
returns-clause-before c = any_first_none (λ (k : Node). has c.args.members.now (id_of k)) c.args.kids.now c.loop-at.at c.loop-at-test.false c.loop-at.invariant
