use Rattle.std.proofs.Common.{◌∙◌, sym}
use Rattle.std.proofs.lemmas.Bool.{and_from}
use Rattle.bd_workers.proofs.EqualLemmas.{sets_same}
use Rattle.bd_workers.proofs.equal.is_same_set.Goals as goal

pub returns-then-subset : goal.returns-then-subset
returns-then-subset c = λ e. sets_same c.args.a.now c.args.b.now c.iter-a.ensures.rising c.iter-b.ensures.rising (and_from _ _ (sym c.subset.ensures ∙ c.if-subset.true) (sym c.subset-then-subset.ensures ∙ e))
