use Rattle.std.proofs.Common.{◌≡◌, length, map, sym, ap, ◌∙◌, subst, arith, rules}
use Rattle.bd_tree.specs.Tree.{steps_of, nodes_of, listed_of, total, joined}
use Rattle.bd_task.specs.TaskView.{TaskView}
use Rattle.bd_task.specs.Valid.{cost_of}
use Rattle.bd_merge.specs.Stands.{Stands}
use Rattle.bd_merge.specs.declared.standing.Found.TheVariants as found
use Rattle.plan_core.specs.Replies.{AreKnown, IsAt, old_cost, new_cost}
use Rattle.plan_core.proofs.CoreLemmas.{carried_steps, carried_nodes, carried_in_range, in_range_of, steps_in, all_known}
use Rattle.plan_core.proofs.judge.Core.test_replacement.Goals as goal

pub returns-in-Split-clause-tests : goal.returns-in-Split-clause-tests
returns-in-Split-clause-tests c = (search rules, search rules, subst (λ t. Stands t c.args.window.now found.Split) c.tree.ensures.tree c.in-Split.ensures)

pub cost_among-old-requires-clause-in_range : goal.cost_among-old-requires-clause-in_range
cost_among-old-requires-clause-in_range c =
    let at : IsAt c.args.self.now c.args.window.now = subst (λ t. Stands t c.args.window.now found.At) c.tree.ensures.tree c.in-At.ensures in
    in_range_of _ _ _ _ (ap (λ (t : TaskView). length t.actions) c.task-2.ensures) c.as_slice.ensures (carried_in_range c.args.self.now c.args.window.now c.args.list.now c.keeps.ensures.room at)

pub cost_among-old-requires-clause-few : goal.cost_among-old-requires-clause-few
cost_among-old-requires-clause-few c =
    let at : IsAt c.args.self.now c.args.window.now = subst (λ t. Stands t c.args.window.now found.At) c.tree.ensures.tree c.in-At.ensures in
    omega (arith, ap (λ z. total (map nodes_of z)) c.as_slice.ensures, carried_nodes c.args.self.now c.args.window.now c.args.list.now c.keeps.ensures.room at, c.keeps.ensures.room.few, c.keeps.ensures.room.short)

pub cost-new-requires-clause-in_range : goal.cost-new-requires-clause-in_range
cost-new-requires-clause-in_range c =
    let known : AreKnown c.args.self.now c.args.list.now = search rules in
    all_known _ _ c.args.list.now (ap (λ (t : TaskView). length t.actions) (sym c.task-3.ensures)) known

pub returns-then-new-old-clause-tests : goal.returns-then-new-old-clause-tests
returns-then-new-old-clause-tests c =
    let at : IsAt c.args.self.now c.args.window.now = subst (λ t. Stands t c.args.window.now found.At) c.tree.ensures.tree c.in-At.ensures in
    let old : c.cost_among-old.result ≡ old_cost c.args.self.now c.args.window.now = c.cost_among-old.ensures ∙ ap (λ (t : TaskView). cost_of t (joined (map listed_of c.as_slice.result.now))) c.task-2.ensures ∙ ap (λ z. cost_of c.args.self.now.task (joined (map listed_of z))) c.as_slice.ensures in
    let new : c.cost-new.result ≡ new_cost c.args.self.now c.args.list.now = c.cost-new.ensures ∙ ap (λ (t : TaskView). cost_of t c.args.list.now) c.task-3.ensures in
    (search rules, search rules, at, old, new, omega (arith, c.if-new-old.true))

pub steps_among-requires : goal.steps_among-requires
steps_among-requires c =
    let at : IsAt c.args.self.now c.args.window.now = subst (λ t. Stands t c.args.window.now found.At) c.tree.ensures.tree c.in-At.ensures in
    omega (arith, ap (λ z. total (map steps_of z)) c.as_slice-2.ensures, carried_steps c.args.self.now c.args.window.now c.args.list.now c.keeps.ensures.room at, c.keeps.ensures.room.short)

pub overflow_sub-kept : goal.overflow_sub-kept
overflow_sub-kept c =
    let at : IsAt c.args.self.now c.args.window.now = subst (λ t. Stands t c.args.window.now found.At) c.tree.ensures.tree c.in-At.ensures in
    omega (arith, c.steps_among.ensures ∙ ap (λ z. total (map steps_of z)) c.as_slice-2.ensures, carried_steps c.args.self.now c.args.window.now c.args.list.now c.keeps.ensures.room at, c.steps.ensures ∙ ap steps_of c.tree-2.ensures.tree)

pub returns-then-steps-gt4096-clause-tests : goal.returns-then-steps-gt4096-clause-tests
returns-then-steps-gt4096-clause-tests c =
    let core = c.args.self.now in
    let window = c.args.window.now in
    let list = c.args.list.now in
    let at : IsAt core window = subst (λ t. Stands t window found.At) c.tree.ensures.tree c.in-At.ensures in
    let old : c.cost_among-old.result ≡ old_cost core window = c.cost_among-old.ensures ∙ ap (λ (t : TaskView). cost_of t (joined (map listed_of c.as_slice.result.now))) c.task-2.ensures ∙ ap (λ z. cost_of core.task (joined (map listed_of z))) c.as_slice.ensures in
    let new : c.cost-new.result ≡ new_cost core list = c.cost-new.ensures ∙ ap (λ (t : TaskView). cost_of t list) c.task-3.ensures in
    let taken : c.steps_among.result ≡ total (map steps_of window.kids) = c.steps_among.ensures ∙ ap (λ z. total (map steps_of z)) c.as_slice-2.ensures in
    let all : c.steps.result ≡ steps_of core.tree = c.steps.ensures ∙ ap steps_of c.tree-2.ensures.tree in
    (search rules, search rules, at, omega (arith, old, new, c.if-new-old.false), omega (arith, taken, all, steps_in core window list c.keeps.ensures.room at, carried_steps core window list c.keeps.ensures.room at), omega (arith, c.if-steps-gt4096.true))

pub returns-clause-tests : goal.returns-clause-tests
returns-clause-tests c =
    let core = c.args.self.now in
    let window = c.args.window.now in
    let list = c.args.list.now in
    let at : IsAt core window = subst (λ t. Stands t window found.At) c.tree.ensures.tree c.in-At.ensures in
    let old : c.cost_among-old.result ≡ old_cost core window = c.cost_among-old.ensures ∙ ap (λ (t : TaskView). cost_of t (joined (map listed_of c.as_slice.result.now))) c.task-2.ensures ∙ ap (λ z. cost_of core.task (joined (map listed_of z))) c.as_slice.ensures in
    let new : c.cost-new.result ≡ new_cost core list = c.cost-new.ensures ∙ ap (λ (t : TaskView). cost_of t list) c.task-3.ensures in
    let taken : c.steps_among.result ≡ total (map steps_of window.kids) = c.steps_among.ensures ∙ ap (λ z. total (map steps_of z)) c.as_slice-2.ensures in
    let all : c.steps.result ≡ steps_of core.tree = c.steps.ensures ∙ ap steps_of c.tree-2.ensures.tree in
    record {
      is_open = search rules;
      known = search rules;
      stands = at;
      cheaper = omega (arith, old, new, c.if-new-old.false);
      short = omega (arith, taken, all, steps_in core window list c.keeps.ensures.room at, carried_steps core window list c.keeps.ensures.room at, c.if-steps-gt4096.false);
    }
