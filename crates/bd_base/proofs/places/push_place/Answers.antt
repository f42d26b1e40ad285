use Rattle.std.proofs.Common.{◌≡◌, ◌+◌, ◌/◌, length, ap, ◌∙◌, arith, ◌∷◌, ◌++◌, [], List, ℕ}
use Rattle.std.proofs.lemmas.Grind.{get_or_default_zero}
use Rattle.bd_base.proofs.WordLemmas.{row_pushed}
use Rattle.bd_base.proofs.places.push_place.Goals as goal

pub returns-clause-took : goal.returns-clause-took
returns-clause-took c = λ _.
    let len : c.args.at / 64 + 1 ≡ length c.widen.new.words.items = omega (arith, c.in_ok-widen.ensures.len) in
    row_pushed c.widen.new.words.items c.args.at (c.args.at / 64) c.index-word.result.now (omega arith) len (c.index-word.ensures ∙ get_or_default_zero c.widen.new.words.items (c.args.at / 64) c.index-word.result.now (omega arith)) c.if-word-at-ne0.false ∙ ap (λ (z : List ℕ). z ++ c.args.at ∷ []) c.in_ok-widen.ensures.same
