use Rattle.std.proofs.Common.{◌∙◌}
use Rattle.bd_merge.specs.FrontEnd.{is_related}
use Rattle.bd_merge.proofs.TouchLemmas.{joined_by, early_has, late_has}
use Rattle.bd_merge.proofs.merging.join_related.Goals as goal

pub returns-in-Early : goal.returns-in-Early
returns-in-Early c =
    let related = is_related c.args.lean c.args.order.now c.args.at in
    joined_by c.join.result c.args.row.now c.join.new.self c.after.result related c.join.ensures (early_has c.args.lean c.args.order.now c.args.at c.after.result c.in-Early.is c.after.ensures)

pub returns-in_ok-before-in-Late : goal.returns-in_ok-before-in-Late
returns-in_ok-before-in-Late c =
    let related = is_related c.args.lean c.args.order.now c.args.at in
    joined_by c.join-in-Late.result c.args.row.now c.join-in-Late.new.self c.row.result related c.join-in-Late.ensures
    (late_has c.args.lean c.args.order.now c.args.at c.row.result c.in-Late.is (c.row.ensures.row ∙ c.in_ok-before-in-Late.ensures))
