use Rattle.std.proofs.Common.{◌∙◌, ap, Some, List, ℕ, Option}
use Rattle.bd_heur.specs.Relaxed.{value_of_all}
use Rattle.bd_heur.specs.Tables.{value_in}
use Rattle.bd_heur.proofs.TableLemmas.{goal_from}
use Rattle.bd_heur.proofs.heuristics.goal_value.Goals as goal

pub returns : goal.returns
returns c =
    c.value_of_all.ensures
    ∙ ap (λ (z : List (Option ℕ)). value_of_all c.args.join (value_in z) (Some 0) c.goal.result.now) c.deref.ensures.value
    ∙ ap (λ (z : List ℕ). value_of_all c.args.join (value_in c.in_ok-table.table.items) (Some 0) z) c.goal.ensures.set
    ∙ goal_from c.args.join c.args.task.now c.args.s.now c.init.ensures.task c.in_ok-table.table.items c.in_ok-table.ensures
