use Rattle.bd_links.proofs.Faultless.{none_where_sound}
use Rattle.bd_links.proofs.law.faultless_where_sound.Goals as goal

pub returns : goal.returns
returns c = λ task root. none_where_sound task root
