use Rattle.bd_top.proofs.BenchLemmas.{benched}
use Rattle.bd_top.proofs.CheckLemmas.{checked}
use Rattle.bd_top.proofs.CompleteLemmas.{complete}
use Rattle.bd_top.proofs.ExactLemmas.{exact}
use Rattle.bd_top.proofs.UsableLemmas.{usable}
use Rattle.bd_top.proofs.alone.run_alone.Goals as goal

pub returns-clause-exact : goal.returns-clause-exact
returns-clause-exact g c = λ decided. exact _ _ _ _ _ _ _ c.run_words.ensures.ends decided

pub returns-clause-complete : goal.returns-clause-complete
returns-clause-complete g c = λ script good shelf out notes. complete _ _ script good _ shelf _ _ _ _ out notes c.run_words.ensures.ends

pub returns-clause-checked : goal.returns-clause-checked
returns-clause-checked g c = λ domain problem plan good shelf out notes. checked _ _ domain problem plan good _ shelf _ _ _ _ out notes c.run_words.ensures.ends

pub returns-clause-benched : goal.returns-clause-benched
returns-clause-benched g c = λ size asked good out notes. benched _ _ size asked good _ _ _ _ _ out notes c.run_words.ensures.ends

pub returns-clause-usable : goal.returns-clause-usable
returns-clause-usable g c = usable _ _ _ _ _ _ _ c.run_words.ensures.ends
