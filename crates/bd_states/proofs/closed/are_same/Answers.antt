use Rattle.std.proofs.Common.{sym, ◌∙◌}
use Rattle.bd_states.proofs.SetLemmas.{same_by_subsets}
use Rattle.bd_states.proofs.closed.are_same.Goals as goal

pub returns : goal.returns
returns c = λ h. same_by_subsets c.args.a.now c.args.b.now c.iter.ensures.rising c.iter-2.ensures.rising (sym c.if-not-subset.ensures) (sym c.subset-2.ensures ∙ h)
