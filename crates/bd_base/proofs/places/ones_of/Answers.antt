use Rattle.bd_base.proofs.WordLemmas.{few_ones}
use Rattle.bd_base.proofs.places.ones_of.Goals as goal

pub returns-clause-few : goal.returns-clause-few
returns-clause-few c = few_ones c.args.word c.ranges.word.fits
