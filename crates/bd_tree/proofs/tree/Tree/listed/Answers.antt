use Rattle.std.proofs.Common.{◌≡◌, ◌++◌, List, ℕ, sym, ap, ◌∙◌, subst}
use Rattle.bd_tree.specs.Linearisation.{IsLinearisation}
use Rattle.bd_tree.specs.Tree.{listed_of}
use Rattle.bd_tree.specs.WellFormed.{has_orders}
use Rattle.bd_tree.proofs.ListedLemmas.{listed_linearises}
use Rattle.bd_tree.proofs.tree.Tree.listed.Goals as goal

pub returns-clause-linearisation : goal.returns-clause-linearisation
returns-clause-linearisation c =
    let items : c.of.result ≡ listed_of c.args.self.now =
    c.of.ensures ∙ c.in_ok-list_into.ensures ∙ ap (λ (z : List ℕ). z ++ listed_of c.self.inside.root) c.new-list.ensures.items ∙ ap listed_of c.self.view_is in
    subst (IsLinearisation c.args.self.now) (sym items) (listed_linearises c.args.self.now (sym (ap has_orders c.self.view_is) ∙ c.self.invariant.orders))
