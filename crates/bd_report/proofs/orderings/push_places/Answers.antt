use Rattle.std.proofs.Common.{◌≡◌, ◌++◌, length, Option, Some, OnOk, slice_get, sym, ap, ◌∙◌, subst}
use Rattle.std.proofs.lemmas.List.{append-nil}
use Rattle.bd_links.specs.Child.{Child}
use Rattle.bd_report.specs.TreeText.{two_lines}
use Rattle.bd_report.proofs.PlaceLemmas.{get_some, get_none}
use Rattle.bd_report.proofs.RangeLemmas.{kid_in}
use Rattle.bd_report.proofs.orderings.push_places.Goals as goal

pub push_two-requires : goal.push_two-requires
push_two-requires c =
    kid_in (length c.args.task.now.facts) c.args.kids.now c.args.i c.in-Some.first.now c.requires
    (get_some c.args.kids.now c.args.i c.in-Some.first.now c.in-Some.ensures.lookup.3.0 c.in-Some.ensures.lookup.1)

pub returns-in-None : goal.returns-in-None
returns-in-None c =
    sym (append-nil c.args.text.now.items)
    ∙ ap (λ (o : Option Child). c.args.text.now.items ++ two_lines c.args.task.now c.args.margin.now o (slice_get c.args.kids.now c.args.j))
    (sym (get_none c.args.kids.now c.args.i c.in-None.ensures.lookup.3))

pub returns-in-None-get : goal.returns-in-None-get
returns-in-None-get c =
    let some = get_some c.args.kids.now c.args.i c.in-Some.first.now c.in-Some.ensures.lookup.3.0 c.in-Some.ensures.lookup.1 in
    sym (append-nil c.args.text.now.items)
    ∙ ap (λ (o : Option Child). c.args.text.now.items ++ two_lines c.args.task.now c.args.margin.now (Some c.in-Some.first.now) o)
    (sym (get_none c.args.kids.now c.args.j c.in-None-get.ensures.lookup.3))
    ∙ ap (λ (o : Option Child). c.args.text.now.items ++ two_lines c.args.task.now c.args.margin.now o (slice_get c.args.kids.now c.args.j)) (sym some)

pub returns-in-Some-get : goal.returns-in-Some-get
returns-in-Some-get c =
    let some = get_some c.args.kids.now c.args.i c.in-Some.first.now c.in-Some.ensures.lookup.3.0 c.in-Some.ensures.lookup.1 in
    let other = get_some c.args.kids.now c.args.j c.in-Some-get.second.now c.in-Some-get.ensures.lookup.3.0 c.in-Some-get.ensures.lookup.1 in
    subst (λ (o : Option Child). OnOk c.push_two.result (c.push_two.new.text.items ≡ c.args.text.now.items ++ two_lines c.args.task.now c.args.margin.now o (slice_get c.args.kids.now c.args.j))) (sym some)
    (subst (λ (o : Option Child). OnOk c.push_two.result (c.push_two.new.text.items ≡ c.args.text.now.items ++ two_lines c.args.task.now c.args.margin.now (Some c.in-Some.first.now) o)) (sym other) c.push_two.ensures)
