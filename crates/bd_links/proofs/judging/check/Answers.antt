use Rattle.std.proofs.Common.{◌≡◌, ◌↔◌, ◌<◌, true, length, Option, None, Result, Ok, Err, IfOk, IfSome, sym, ◌∙◌, subst, rules}
use Rattle.bd_task.specs.TaskView.{TaskView, IsTask}
use Rattle.bd_tree.specs.declared.node.Node.{Node}
use Rattle.bd_links.specs.declared.parts.Fault.{Fault}
use Rattle.bd_links.specs.Faults.{fact_of}
use Rattle.bd_links.specs.Sound.{first_fault, are_below, IsSound, RunsAlways}
use Rattle.bd_links.proofs.FactRange.{fault_below}
use Rattle.bd_links.proofs.Faultless.{none_where_sound}
use Rattle.bd_links.proofs.There.{runs_always}
use Rattle.bd_links.proofs.judging.check.Goals as goal

tells_sound : {E : Type 0} (task : TaskView) (root : Node) (r : Result (Option Fault) E) → IfOk r (λ f. f ≡ first_fault task root) → IfOk r (λ f. f ≡ None ↔ IsSound task root)
tells_sound task root (Ok f) e = subst (λ z. z ≡ None ↔ IsSound task root) (sym e) (none_where_sound task root)
tells_sound task root (Err x) e = tt

tells_runs : {E : Type 0} (task : TaskView) (root : Node) (r : Result (Option Fault) E) → are_below (length task.actions) root ≡ true → IfOk r (λ f. f ≡ first_fault task root) → IfOk r (λ f. f ≡ None → RunsAlways task root)
tells_runs task root (Ok f) below e = λ none. runs_always task root below ((none_where_sound task root).0 (sym e ∙ none))
tells_runs task root (Err x) below e = tt

tells_fact : {E : Type 0} (task : TaskView) (root : Node) (r : Result (Option Fault) E) → IsTask task → IfOk r (λ f. f ≡ first_fault task root) → IfOk r (λ f. IfSome f (λ fault. fact_of fault < length task.facts))
tells_fact task root (Ok f) is e = subst (λ z. IfSome z (λ fault. fact_of fault < length task.facts)) (sym e) (fault_below task root is)
tells_fact task root (Err x) is e = tt

pub returns-clause-sound : goal.returns-clause-sound
returns-clause-sound c =
    let root : c.root.result.now ≡ c.args.tree.now = search rules in
    tells_sound c.args.task.now c.args.tree.now _ (subst (λ z. IfOk c.fault_of_tree.result (λ f. f ≡ first_fault c.args.task.now z)) root c.fault_of_tree.ensures.first)

pub returns-clause-runs : goal.returns-clause-runs
returns-clause-runs c =
    let root : c.root.result.now ≡ c.args.tree.now = search rules in
    tells_runs c.args.task.now c.args.tree.now _ c.requires (subst (λ z. IfOk c.fault_of_tree.result (λ f. f ≡ first_fault c.args.task.now z)) root c.fault_of_tree.ensures.first)

pub returns-clause-fact : goal.returns-clause-fact
returns-clause-fact c =
    let root : c.root.result.now ≡ c.args.tree.now = search rules in
    tells_fact c.args.task.now c.args.tree.now _ c.fault_of_tree.ensures.task (subst (λ z. IfOk c.fault_of_tree.result (λ f. f ≡ first_fault c.args.task.now z)) root c.fault_of_tree.ensures.first)
