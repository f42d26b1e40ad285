use Rattle.std.proofs.Common.{◌∙◌}
use Rattle.bd_merge.proofs.merging.is_first.Goals as goal

pub returns : goal.returns
returns c = c.is_told_first.ensures ∙ c.requires.sides c.args.at c.requires.within
