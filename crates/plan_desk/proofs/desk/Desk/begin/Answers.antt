use Rattle.std.proofs.Common.{List, ◌∷◌, [], ◌++◌, ap, ◌∙◌}
use Rattle.plan_core.specs.Core.{CoreView}
use Rattle.plan_desk.proofs.Turns.{starts_as}
use Rattle.plan_desk.proofs.desk.Desk.begin.Goals as goal

pub new-requires : goal.new-requires
new-requires c =
    starts_as c.args.core c.of-about.result.value c.history.result.now c.push_reserved.new.self.items c.keeps.ensures c.of-about.ensures c.history.ensures
    (c.push_reserved.ensures.items ∙ ap (λ (l : List CoreView). l ++ c.args.core ∷ []) (c.reserve.ensures.items ∙ c.new-slots.ensures.items))
