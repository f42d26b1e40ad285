use Rattle.std.proofs.Common.{ap, ◌∙◌, List, [], ◌∷◌, ◌++◌}
use Rattle.bd_pieces.specs.declared.judged.Verdict.{Verdict}
use Rattle.bd_workers.proofs.KeptLemmas.{kept_more}
use Rattle.bd_workers.proofs.keeping.Kept.keep.Goals as goal

pub returns : goal.returns
returns c = kept_more c.args.self.now c.make_room.new.self c.args.verdict.now c.in_ok-copy.copy c.push.new.self.items c.make_room.ensures c.in_ok-copy.ensures (c.in_ok-push.ensures.items ∙ ap (λ (z : List Verdict). z ++ c.in_ok-copy.copy ∷ []) c.self.view_is)
