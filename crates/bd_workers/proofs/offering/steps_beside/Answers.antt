use Rattle.std.proofs.Common.{[], map, ap, ◌∙◌, arith}
use Rattle.bd_tree.specs.Tree.{steps_of, total}
use Rattle.plan_core.proofs.CoreLemmas.{carried_steps}
use Rattle.bd_workers.proofs.offering.steps_beside.Goals as goal

pub steps_among-requires : goal.steps_among-requires
steps_among-requires c = omega (arith, ap (λ z. total (map steps_of z)) c.as_slice.ensures, carried_steps c.args.core.now c.args.window.now [] c.keeps.ensures.room c.requires, c.keeps.ensures.room.short)

pub overflow_sub-result : goal.overflow_sub-result
overflow_sub-result c =
    omega (arith, c.steps_among.ensures ∙ ap (λ z. total (map steps_of z)) c.as_slice.ensures, carried_steps c.args.core.now c.args.window.now [] c.keeps.ensures.room c.requires, c.steps.ensures ∙ ap steps_of c.tree.ensures.tree)

pub returns-clause-steps : goal.returns-clause-steps
returns-clause-steps c =
    omega (arith, c.steps_among.ensures ∙ ap (λ z. total (map steps_of z)) c.as_slice.ensures, carried_steps c.args.core.now c.args.window.now [] c.keeps.ensures.room c.requires, c.steps.ensures ∙ ap steps_of c.tree.ensures.tree)
