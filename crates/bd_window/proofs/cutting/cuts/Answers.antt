use Rattle.std.proofs.Common.{◌∙◌, ◌++◌, List, sym, ap, subst}
use Rattle.bd_tree.specs.declared.node.Node.{Node}
use Rattle.bd_merge.specs.declared.window.Window.{Window}
use Rattle.bd_window.specs.Law.{AllStand}
use Rattle.bd_window.specs.Picks.{picked_family}
use Rattle.bd_window.proofs.Standing.{family_law}
use Rattle.bd_window.proofs.Whole.{family_alike}
use Rattle.bd_window.proofs.cutting.cuts.Goals as goal

pub returns-clause-cuts : goal.returns-clause-cuts
returns-clause-cuts c =
    c.in_ok-put_family.ensures
    ∙ ap (λ (z : List Window). z ++ picked_family c.args.width c.root.result.now) c.new-cuts.ensures.items
    ∙ ap (λ (z : Node). picked_family c.args.width z) c.root.ensures.root
    ∙ sym (family_alike c.args.width c.args.tree.now c.root.ensures.well_formed.orders)

pub returns-clause-stand : goal.returns-clause-stand
returns-clause-stand c =
    subst (AllStand c.args.tree.now)
    (sym (
    c.in_ok-put_family.ensures
    ∙ ap (λ (z : List Window). z ++ picked_family c.args.width c.root.result.now) c.new-cuts.ensures.items
    ∙ ap (λ (z : Node). picked_family c.args.width z) c.root.ensures.root
    ∙ sym (family_alike c.args.width c.args.tree.now c.root.ensures.well_formed.orders)
    ))
    (family_law c.args.width c.args.tree.now c.root.ensures.well_formed)
