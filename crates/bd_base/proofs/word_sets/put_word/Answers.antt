use Rattle.std.proofs.Common.{◌∙◌}
use Rattle.std.proofs.lemmas.Grind.{get_or_default_zero}
use Rattle.bd_base.proofs.SetLemmas.{put_or}
use Rattle.bd_base.proofs.word_sets.put_word.Goals as goal

pub returns-clause-put : goal.returns-clause-put
returns-clause-put c =
    let words = c.args.words.now.items in
    put_or words c.args.n c.args.word c.index.result.now c.requires (c.index.ensures ∙ get_or_default_zero words c.args.n c.index.result.now c.requires)
