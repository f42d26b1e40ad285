use Rattle.std.proofs.Common.{◌∙◌, refl}
use Rattle.plan_core.specs.Core.{is_replacement}
use Rattle.plan_rebuild.proofs.GrowLemmas.{adds_here}
use Rattle.bd_workers.proofs.TurnLemmas.{round_left}
use Rattle.bd_workers.proofs.turns.round.Goals as goal

pub returns-in_err-tree-clause-adds : goal.returns-in_err-tree-clause-adds
returns-in_err-tree-clause-adds g c = adds_here is_replacement c.args.core.now

pub returns-in_err-walk-clause-adds : goal.returns-in_err-walk-clause-adds
returns-in_err-walk-clause-adds g c = adds_here is_replacement c.args.core.now

pub returns-clause-left : goal.returns-clause-left
returns-clause-left g c = λ before grows.
    round_left before c.args.core.now c.pieces_of.new.core c.args.setup.now c.in_ok-tree.tree c.in_ok-walk.walk c.in_ok-walk.walk c.in_ok-pieces.pieces.items
    grows c.in_ok-pieces.ensures.adds (c.in_ok-tree.ensures ∙ c.tree.ensures.tree) c.in_ok-walk.ensures.family c.in_ok-walk.ensures.stand refl
    c.in_ok-pieces.ensures.pieces c.keeps.ensures c.keeps-2.ensures c.requires.free c.requires.tight
