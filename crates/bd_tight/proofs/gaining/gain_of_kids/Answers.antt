use Rattle.std.proofs.Common.{◌≡◌, ℕ, List, All, IfOk, sym, ap, ◌∙◌, subst}
use Rattle.bd_shape.specs.Grouped.{CanGroup}
use Rattle.bd_tight.specs.Gains.{facts_between, gain_among, ids_related, sides_by}
use Rattle.bd_tight.proofs.GainLemmas.{sides_group}
use Rattle.bd_tight.proofs.gaining.gain_of_kids.Goals as goal

pub gain_among-requires-clause-lefts : goal.gain_among-requires-clause-lefts
gain_among-requires-clause-lefts c =
    let facts = facts_between c.args.first.now.effects c.args.second.now.effects in
    let others = c.deref-2.ensures.value ∙ c.in_ok-others.ensures ∙ ap (λ (f : List ℕ). ids_related f c.args.kids.now) (c.deref.ensures.value ∙ c.in_ok-facts.ensures) in
    let lefts : c.deref-4.result.now ≡ sides_by c.args.block.now c.args.first.now.id (ids_related facts c.args.kids.now) =
    c.deref-4.ensures.value ∙ c.in_ok-lefts.ensures ∙ ap (λ (i : ℕ). sides_by c.args.block.now i c.deref-2.result.now) c.id.ensures ∙ ap (sides_by c.args.block.now c.args.first.now.id) others in
    subst (All (CanGroup c.args.tree.now c.args.own)) (sym lefts) (sides_group c.args.task.now.actions c.args.tree.now c.args.own c.args.block.now c.args.kids.now c.requires.stands c.args.first.now.id facts c.requires.first)

pub gain_among-requires-clause-rights : goal.gain_among-requires-clause-rights
gain_among-requires-clause-rights c =
    let facts = facts_between c.args.first.now.effects c.args.second.now.effects in
    let others = c.deref-3.ensures.value ∙ c.in_ok-others.ensures ∙ ap (λ (f : List ℕ). ids_related f c.args.kids.now) (c.deref.ensures.value ∙ c.in_ok-facts.ensures) in
    let rights : c.deref-5.result.now ≡ sides_by c.args.block.now c.args.second.now.id (ids_related facts c.args.kids.now) =
    c.deref-5.ensures.value ∙ c.in_ok-rights.ensures ∙ ap (λ (i : ℕ). sides_by c.args.block.now i c.deref-3.result.now) c.id-2.ensures ∙ ap (sides_by c.args.block.now c.args.second.now.id) others in
    subst (All (CanGroup c.args.tree.now c.args.own)) (sym rights) (sides_group c.args.task.now.actions c.args.tree.now c.args.own c.args.block.now c.args.kids.now c.requires.stands c.args.second.now.id facts c.requires.second)

pub returns : goal.returns
returns c =
    let facts = facts_between c.args.first.now.effects c.args.second.now.effects in
    let of_facts = ap (λ (f : List ℕ). ids_related f c.args.kids.now) (c.deref.ensures.value ∙ c.in_ok-facts.ensures) in
    let lefts : c.deref-4.result.now ≡ sides_by c.args.block.now c.args.first.now.id (ids_related facts c.args.kids.now) =
    c.deref-4.ensures.value ∙ c.in_ok-lefts.ensures ∙ ap (λ (i : ℕ). sides_by c.args.block.now i c.deref-2.result.now) c.id.ensures ∙ ap (sides_by c.args.block.now c.args.first.now.id) (c.deref-2.ensures.value ∙ c.in_ok-others.ensures ∙ of_facts) in
    let rights : c.deref-5.result.now ≡ sides_by c.args.block.now c.args.second.now.id (ids_related facts c.args.kids.now) =
    c.deref-5.ensures.value ∙ c.in_ok-rights.ensures ∙ ap (λ (i : ℕ). sides_by c.args.block.now i c.deref-3.result.now) c.id-2.ensures ∙ ap (sides_by c.args.block.now c.args.second.now.id) (c.deref-3.ensures.value ∙ c.in_ok-others.ensures ∙ of_facts) in
    subst (λ (ls : List (List ℕ)). IfOk c.gain_among.result (λ told. told ≡ gain_among c.args.task.now c.args.tree.now c.args.span c.args.own ls (sides_by c.args.block.now c.args.second.now.id (ids_related facts c.args.kids.now)))) lefts
    (subst (λ (rs : List (List ℕ)). IfOk c.gain_among.result (λ told. told ≡ gain_among c.args.task.now c.args.tree.now c.args.span c.args.own c.deref-4.result.now rs)) rights c.gain_among.ensures)
