use Rattle.std.proofs.Common.{◌≡◌, ◌++◌, ℕ, List, sym, ap, ◌∙◌, subst}
use Rattle.bd_tree.specs.declared.node.Node.{Node, Block}
use Rattle.bd_tree.specs.WellFormed.{IsWellFormed}
use Rattle.plan_core.specs.Rebuilt.{leaves_of}
use Rattle.plan_core.proofs.RebuildLemmas.{rebuilt_well_formed}
use Rattle.plan_core.proofs.rebuild.rebuilt.Goals as goal

pub of-requires-2 : goal.of-requires-2
of-requires-2 c =
    let kids : c.of.result ≡ leaves_of c.args.tree.now =
    c.of.ensures ∙ c.in_ok-put_steps.ensures ∙ ap (λ (z : List Node). z ++ leaves_of c.root.result.now) c.new-kids.ensures.items ∙ ap leaves_of c.root.ensures.root in
    subst (λ (z : List Node). IsWellFormed (Block 0 z c.in_ok-order.order)) (sym kids)
    (subst (λ (z : List (ℕ × ℕ)). IsWellFormed (Block 0 (leaves_of c.args.tree.now) z)) (sym c.in_ok-order.ensures)
    (rebuilt_well_formed c.args.tree.now c.args.order.now c.root.ensures.well_formed c.requires))
