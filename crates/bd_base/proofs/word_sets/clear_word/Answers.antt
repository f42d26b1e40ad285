use Rattle.std.proofs.Common.{◌<◌, length, ◌∙◌, arith}
use Rattle.std.proofs.lemmas.Grind.{get_or_default_zero}
use Rattle.bd_base.proofs.SetLemmas.{clear_and, clear_past}
use Rattle.bd_base.proofs.word_sets.clear_word.Goals as goal

pub returns-then-n-len-clause-cleared : goal.returns-then-n-len-clause-cleared
returns-then-n-len-clause-cleared c = clear_past c.args.words.now.items c.args.n c.args.word (omega arith)

pub returns-clause-cleared : goal.returns-clause-cleared
returns-clause-cleared c =
    let words = c.args.words.now.items in
    let lt : c.args.n < length words = omega arith in
    clear_and words c.args.n c.args.word c.index.result.now lt (c.index.ensures ∙ get_or_default_zero words c.args.n c.index.result.now lt) c.ranges.word.fits
