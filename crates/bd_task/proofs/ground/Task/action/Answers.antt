use Rattle.std.proofs.Common.{◌≡◌, ◌<◌, length, arith, ap}
use Rattle.bd_task.specs.TaskView.{TaskView}
use Rattle.bd_task.proofs.TaskLemmas.{IsAction_there}
use Rattle.bd_task.proofs.ground.Task.action.Goals as goal

pub returns-clause-fits : goal.returns-clause-fits
returns-clause-fits c =
    let same : length c.self.inside.actions.items ≡ length c.args.self.now.actions = ap (λ (t : TaskView). length t.actions) c.self.view_is in
    let facts : length c.self.inside.facts.items ≡ length c.args.self.now.facts = ap (λ (t : TaskView). length t.facts) c.self.view_is in
    let at : c.a.inside.0 ≡ c.args.a = c.a.view_is in
    let within : c.a.inside.0 < length c.self.inside.actions.items = omega (arith, c.requires) in
    IsAction_there _ _ _ _ _ facts c.self.invariant.actions within c.index-action.ensures
