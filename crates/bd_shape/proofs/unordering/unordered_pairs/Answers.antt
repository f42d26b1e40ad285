use Rattle.std.proofs.Common.{◌≡◌, List, ℕ, sym, ◌∙◌}
use Rattle.bd_base.specs.Pairs.{without_pair}
use Rattle.bd_shape.proofs.PairLemmas.{no_first, no_second, one_pair}
use Rattle.bd_shape.proofs.ResultLemmas.{if_ok}
use Rattle.bd_shape.proofs.unordering.unordered_pairs.Goals as goal

pub returns-in-None : goal.returns-in-None
returns-in-None c =
    if_ok (λ (o : List (ℕ × ℕ)). o ≡ c.args.order.now) _ c.try_copy.result
    (λ o e. e ∙ no_first c.args.i c.args.j c.args.kids.now c.args.order.now (sym c.in-None.ensures)) c.try_copy.ensures

pub returns-in-None-place_of : goal.returns-in-None-place_of
returns-in-None-place_of c =
    if_ok (λ (o : List (ℕ × ℕ)). o ≡ c.args.order.now) _ c.try_copy-in-None-place_of.result
    (λ o e. e ∙ no_second c.args.i c.args.j c.args.kids.now c.args.order.now (sym c.in-None-place_of.ensures)) c.try_copy-in-None-place_of.ensures

pub returns-in_ok-position-in-Some-place_of-2 : goal.returns-in_ok-position-in-Some-place_of-2
returns-in_ok-position-in-Some-place_of-2 c =
    let a = c.in_ok-position-in-Some-place_of.field-0 in
    let b = c.in_ok-position-in-Some-place_of-2.field-0 in
    if_ok (λ (o : List (ℕ × ℕ)). o ≡ without_pair a b c.args.order.now) _ c.without.result
    (λ o e. e
    ∙ one_pair c.args.i c.args.j c.args.kids.now c.args.order.now c.requires c.in-Some.a c.in-Some-place_of.b a b (sym c.in-Some.ensures) (sym c.in-Some-place_of.ensures) c.in_ok-position-in-Some-place_of.ensures
    c.in_ok-position-in-Some-place_of-2.ensures) c.without.ensures
