use Rattle.std.proofs.Common.{◌≡◌, ◌∙◌, [], rules}
use Rattle.std.specs.List.{enumerate_from}
use Rattle.bd_links.specs.Effects.{is_given, all_facts}
use Rattle.bd_links.specs.Rows.{given_by}
use Rattle.bd_links.specs.declared.parts.Effects.{Effects}
use Rattle.bd_links.proofs.RowLemmas.{filter_same, given_same}
use Rattle.bd_links.proofs.SetLemmas.{kept_all, rising-all_facts}
use Rattle.bd_links.proofs.sets.adds_of_block.Goals as goal

pub returns : goal.returns
returns c =
    let kids = enumerate_from 0 c.args.kids.now in
    let facts = all_facts (λ (e : Effects). e.add) kids in
    let order = c.args.order.now in
    let touches = c.args.touches.now in
    let done : c.loop-f.f-iterator ≡ [] = search rules in
    kept_all (given_by order touches) facts _ _ done (rising-all_facts (λ (e : Effects). e.add) kids) c.loop-f.invariant
    ∙ filter_same (given_by order touches) (is_given order kids) (given_same order touches kids c.requires) facts
