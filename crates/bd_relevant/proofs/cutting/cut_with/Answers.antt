use Rattle.std.proofs.Common.{ap, ◌∙◌}
use Rattle.bd_cut.specs.Cut.{cut_set}
use Rattle.bd_relevant.proofs.CutDownLemmas.{cut_is_task, cut_down_is}
use Rattle.bd_relevant.proofs.cutting.cut_with.Goals as goal

pub new-cut-requires : goal.new-cut-requires
new-cut-requires c =
    cut_is_task c.args.task.now c.args.relevant c.args.numbers.items c.args.actions.items c.in_ok-names.names.items c.in_ok-first.first c.in_ok-wanted.wanted c.init-start.ensures.task c.requires.kept
    (c.in_ok-names.ensures ∙ c.facts.ensures.count)
    (c.in_ok-first.ensures ∙ ap (cut_set c.args.relevant) c.init.ensures.set)
    (c.in_ok-wanted.ensures ∙ ap (cut_set c.args.relevant) c.goal.ensures.set)

pub returns : goal.returns
returns c =
    cut_down_is c.args.task.now c.args.relevant c.args.numbers.items c.args.actions.items c.in_ok-names.names.items c.in_ok-first.first c.in_ok-wanted.wanted c.init-start.ensures.task c.requires.kept
    (c.in_ok-names.ensures ∙ c.facts.ensures.count)
    (c.in_ok-first.ensures ∙ ap (cut_set c.args.relevant) c.init.ensures.set)
    (c.in_ok-wanted.ensures ∙ ap (cut_set c.args.relevant) c.goal.ensures.set)
    c.requires.relevant c.new-cut.result c.new-cut.ensures c.of.result c.of.ensures
