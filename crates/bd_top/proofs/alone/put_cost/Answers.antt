use Rattle.bd_top.specs.Texts.{valid_line}
use Rattle.bd_top.proofs.TextsLemmas.{checks}
use Rattle.bd_top.proofs.alone.put_cost.Goals as goal

pub returns : goal.returns
returns g c = checks c.args.cost _ _ _ c.status_of-status.ensures (c.put_text.ensures.put (valid_line c.args.cost) c.valid_text-line.ensures)
