use Rattle.bd_top.specs.Deorder.{told_tree}
use Rattle.bd_top.proofs.DeorderLemmas.{tells_tree}
use Rattle.bd_top.proofs.deorder.put_tree.Goals as goal

pub returns : goal.returns
returns g c = λ task list span loosens.
    tells_tree task list span c.args.run _ loosens c.put_text.result _ c.status_of-status.ensures (c.put_text.ensures.put (told_tree c.args.run) c.tree_text-text.ensures)
