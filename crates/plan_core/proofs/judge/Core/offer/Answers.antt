use Rattle.std.proofs.Common.{◌≡◌, ◌+◌, [], ◌∷◌, ◌++◌, sym, ap, ◌∙◌, subst}
use Rattle.plan_core.specs.Core.{CoreView, state_of, tree_after}
use Rattle.plan_core.specs.Replies.{IsAcceptable}
use Rattle.plan_core.proofs.LawLemmas.{keeps_after}
use Rattle.plan_core.proofs.judge.Core.offer.Goals as goal

pub invariant_of-self-2 : goal.invariant_of-self-2
invariant_of-self-2 c =
    let offer = c.args.offer.now in
    let may : IsAcceptable c.args.self.now offer = c.in_ok-tree.ensures.judges.0 in
    let tree : c.in_ok-tree.tree ≡ tree_after offer (state_of c.args.self.now) = c.in_ok-tree.ensures.judges.1 in
    keeps_after _ offer _ _ _ _ _ _ _ c.self.invariant
    (subst (λ (v : CoreView). IsAcceptable v offer) (sym c.self.view_is) may)
    (c.in_ok-push.ensures.items ∙ ap (λ o. c.self.inside.history.items ++ o ∷ []) c.in_ok-try_copy.ensures)
    (subst (λ (v : CoreView). c.in_ok-tree.tree ≡ tree_after offer (state_of v)) (sym c.self.view_is) tree)
    (ap (λ n. c.self.inside.next + n) c.new_ids.ensures)
    (ap (λ n. c.self.inside.replaced + n) c.replaced.ensures)
    c.leaves_due-self-inside.ensures
