use Rattle.std.proofs.Common.{◌≡◌, Option, Some, IfOk, slice_get, sym, ap, ◌∙◌, subst}
use Rattle.bd_links.specs.Child.{Child}
use Rattle.bd_tight.specs.Gains.{gain_of_two}
use Rattle.bd_tight.proofs.GainLemmas.{id_at}
use Rattle.bd_tight.proofs.ToldLemmas.{get_some, get_none}
use Rattle.bd_tight.proofs.gaining.gain_of_two.Goals as goal

pub gain_of_kids-requires-clause-first : goal.gain_of_kids-requires-clause-first
gain_of_kids-requires-clause-first c = id_at c.args.kids.now c.args.i c.in-Some.first.now (get_some c.args.kids.now c.args.i c.in-Some.first.now c.in-Some.ensures.lookup.3.0 c.in-Some.ensures.lookup.1)

pub gain_of_kids-requires-clause-second : goal.gain_of_kids-requires-clause-second
gain_of_kids-requires-clause-second c = id_at c.args.kids.now c.args.j c.in-Some-get.second.now (get_some c.args.kids.now c.args.j c.in-Some-get.second.now c.in-Some-get.ensures.lookup.3.0 c.in-Some-get.ensures.lookup.1)

pub returns-in-None : goal.returns-in-None
returns-in-None c =
    ap (λ (o : Option Child). gain_of_two c.args.task.now c.args.tree.now c.args.span c.args.own c.args.block.now c.args.kids.now o (slice_get c.args.kids.now c.args.j))
    (sym (get_none c.args.kids.now c.args.i c.in-None.ensures.lookup.3))

pub returns-in-None-get : goal.returns-in-None-get
returns-in-None-get c =
    let some = get_some c.args.kids.now c.args.i c.in-Some.first.now c.in-Some.ensures.lookup.3.0 c.in-Some.ensures.lookup.1 in
    ap (λ (o : Option Child). gain_of_two c.args.task.now c.args.tree.now c.args.span c.args.own c.args.block.now c.args.kids.now (Some c.in-Some.first.now) o)
    (sym (get_none c.args.kids.now c.args.j c.in-None-get.ensures.lookup.3))
    ∙ ap (λ (o : Option Child). gain_of_two c.args.task.now c.args.tree.now c.args.span c.args.own c.args.block.now c.args.kids.now o (slice_get c.args.kids.now c.args.j)) (sym some)

pub returns-in-Some-get : goal.returns-in-Some-get
returns-in-Some-get c =
    let some = get_some c.args.kids.now c.args.i c.in-Some.first.now c.in-Some.ensures.lookup.3.0 c.in-Some.ensures.lookup.1 in
    let other = get_some c.args.kids.now c.args.j c.in-Some-get.second.now c.in-Some-get.ensures.lookup.3.0 c.in-Some-get.ensures.lookup.1 in
    subst (λ (o : Option Child). IfOk c.gain_of_kids.result (λ told. told ≡ gain_of_two c.args.task.now c.args.tree.now c.args.span c.args.own c.args.block.now c.args.kids.now o (slice_get c.args.kids.now c.args.j))) (sym some)
    (subst (λ (o : Option Child). IfOk c.gain_of_kids.result (λ told. told ≡ gain_of_two c.args.task.now c.args.tree.now c.args.span c.args.own c.args.block.now c.args.kids.now (Some c.in-Some.first.now) o)) (sym other) c.gain_of_kids.ensures)
