use Rattle.std.proofs.Common.{sym, ◌∙◌}
use Rattle.plan_rebuild.proofs.PairLemmas.{pairs_told}
use Rattle.plan_rebuild.proofs.pairs.gain_of_pair.Goals as goal

pub returns-in-Block : goal.returns-in-Block
returns-in-Block c =
    pairs_told c.args.core.now c.args.pair c.keeps.ensures c.requires.open c.requires.gain c.in-Block.id c.in-Block.kids c.in-Block.order
    (sym c.tree.ensures.tree ∙ sym c.root.ensures.root ∙ c.in-Block.is) c.as_slice.result.now c.as_slice.ensures c.sides_of.result c.sides_of.ensures
