use Rattle.std.proofs.Common.{◌≡◌, ℕ, true, false, sym, ap, ◌∙◌, subst, rules}
use Rattle.bd_tree.specs.declared.node.Node.{Node}
use Rattle.bd_shape.specs.Grouped.{CanGroup, HasSide, grouped, side_id}
use Rattle.bd_shape.specs.Hull.{between_at}
use Rattle.bd_shape.specs.Kids.{convex_at}
use Rattle.bd_shape.specs.Tightened.{both_grouped, right_fresh}
use Rattle.plan_core.specs.Sides.{are_two}
use Rattle.plan_core.proofs.SideLemmas.{two_from, can_left, can_right, same_between, all_hold, last_fails}
use Rattle.plan_core.proofs.sides.grouped_sides.Goals as goal

pub group-requires-clause-kids : goal.group-requires-clause-kids
group-requires-clause-kids c =
    let root = c.args.tree.now in
    let block = c.args.block in
    let left = c.args.left.now in
    let right = c.args.right.now in
    let two : are_two left right ≡ true = search rules in
    let convex : convex_at block left root ≡ true = search rules in
    can_left root block left right c.args.next c.requires.there (two_from root block left right c.args.next c.requires.there two) convex

pub group-requires-2-clause-kids : goal.group-requires-2-clause-kids
group-requires-2-clause-kids c =
    let root = c.args.tree.now in
    let block = c.args.block in
    let left = c.args.left.now in
    let right = c.args.right.now in
    let next = c.args.next in
    let two : are_two left right ≡ true = search rules in
    let convex : convex_at block right c.in_ok-first.first ≡ true = search rules in
    let is : c.in_ok-first.first ≡ grouped root block left next = c.in_ok-first.ensures.tree in
    let side : HasSide root block left next (grouped root block left next) = subst (λ (t : Node). HasSide root block left next t) is c.in_ok-first.ensures.kids in
    subst (λ (t : Node). CanGroup t block right) (sym is)
    (can_right root block left right next c.requires.there (two_from root block left right next c.requires.there two) side (ap (λ (t : Node). convex_at block right t) (sym is) ∙ convex))

pub returns-then-is_between_at-clause-none : goal.returns-then-is_between_at-clause-none
returns-then-is_between_at-clause-none c =
    let root = c.args.tree.now in
    let block = c.args.block in
    let left = c.args.left.now in
    let right = c.args.right.now in
    let next = c.args.next in
    let first : c.in_ok-first.first ≡ grouped root block left next = c.in_ok-first.ensures.tree in
    let both : c.in_ok-both.both ≡ both_grouped root block left right next =
    c.in_ok-both.ensures.tree ∙ ap (λ (t : Node). grouped t block right c.right_fresh-free.result) first ∙ ap (λ (n : ℕ). grouped (grouped root block left next) block right n) c.right_fresh-free.ensures in
    let second : c.side_id-2.result ≡ side_id right (right_fresh left next) = c.side_id-2.ensures ∙ ap (side_id right) c.right_fresh-free.ensures in
    let found : c.is_between_at.result ≡ true = search rules in
    let here : between_at block (side_id left next) (side_id right (right_fresh left next)) (both_grouped root block left right next) ≡ true =
    sym (c.is_between_at.ensures ∙ same_between block _ _ _ _ _ _ c.side_id.ensures second both) ∙ found in
    last_fails (are_two left right) (convex_at block left root) (convex_at block right (grouped root block left next)) _ here

pub returns-clause-some : goal.returns-clause-some
returns-clause-some c =
    let root = c.args.tree.now in
    let block = c.args.block in
    let left = c.args.left.now in
    let right = c.args.right.now in
    let next = c.args.next in
    let two : are_two left right ≡ true = search rules in
    let convex : convex_at block left root ≡ true = search rules in
    let first : c.in_ok-first.first ≡ grouped root block left next = c.in_ok-first.ensures.tree in
    let later : convex_at block right c.in_ok-first.first ≡ true = search rules in
    let both : c.in_ok-both.both ≡ both_grouped root block left right next =
    c.in_ok-both.ensures.tree ∙ ap (λ (t : Node). grouped t block right c.right_fresh-free.result) first ∙ ap (λ (n : ℕ). grouped (grouped root block left next) block right n) c.right_fresh-free.ensures in
    let second : c.side_id-2.result ≡ side_id right (right_fresh left next) = c.side_id-2.ensures ∙ ap (side_id right) c.right_fresh-free.ensures in
    let none : c.is_between_at.result ≡ false = search rules in
    let out : between_at block (side_id left next) (side_id right (right_fresh left next)) (both_grouped root block left right next) ≡ false =
    sym (c.is_between_at.ensures ∙ same_between block _ _ _ _ _ _ c.side_id.ensures second both) ∙ none in
    all_hold _ _ _ _ two convex (ap (λ (t : Node). convex_at block right t) (sym first) ∙ later) out
