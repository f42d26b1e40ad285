use Rattle.std.proofs.Common.{sym, ◌∙◌}
use Rattle.bd_tree.proofs.LooseLemmas.{loose_well_formed}
use Rattle.bd_tree.proofs.tree.Tree.loosen.Goals as goal

pub invariant_of-self : goal.invariant_of-self
invariant_of-self c = loose_well_formed _ _ c.args.i c.args.j c.self.invariant (λ id kids order e. c.requires id kids order (sym c.self.view_is ∙ e)) c.loosen.ensures
