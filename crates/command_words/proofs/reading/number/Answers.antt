use Rattle.std.proofs.Common.{◌∙◌, ap, subst, sym, ℕ, Option}
use Rattle.std.specs.Prelude.{unwrap_or}
use Rattle.std.specs.Str.Parse.{ParsesUnsigned, ExplainsUnsignedError, HasUnsignedDigitsIfOk}
use Rattle.command_words.proofs.NumberLemmas.{number_told, number_ranged}
use Rattle.command_words.specs.Range.{IsFrom1To}
use Rattle.command_words.proofs.reading.number.Goals as goal

pub returns-in-Some-clause-number : goal.returns-in-Some-clause-number
returns-in-Some-clause-number c =
    ap (λ (o : Option ℕ). unwrap_or o c.args.default) (sym c.in-Some.is)
    ∙ number_told _ (λ bs r. ParsesUnsigned 32 10 bs r × ExplainsUnsignedError 10 bs r × HasUnsignedDigitsIfOk bs r)
    c.args.matches.now c.args.id.now c.args.most c.args.default c.get_one.result (λ u x g. g.0) c.requires.most c.requires.number
    c.get_one.ensures.none c.get_one.ensures.value

pub returns-in-None-clause-number : goal.returns-in-None-clause-number
returns-in-None-clause-number c =
    ap (λ (o : Option ℕ). unwrap_or o c.args.default) (sym c.in-None.is)
    ∙ number_told _ (λ bs r. ParsesUnsigned 32 10 bs r × ExplainsUnsignedError 10 bs r × HasUnsignedDigitsIfOk bs r)
    c.args.matches.now c.args.id.now c.args.most c.args.default c.get_one.result (λ u x g. g.0) c.requires.most c.requires.number
    c.get_one.ensures.none c.get_one.ensures.value

pub returns-in-Some-clause-range : goal.returns-in-Some-clause-range
returns-in-Some-clause-range c =
    subst (IsFrom1To c.args.most) (sym (returns-in-Some-clause-number c))
    (number_ranged c.args.matches.now c.args.id.now c.args.most c.args.default c.requires.number c.requires.default)

pub returns-in-None-clause-range : goal.returns-in-None-clause-range
returns-in-None-clause-range c =
    subst (IsFrom1To c.args.most) (sym (returns-in-None-clause-number c))
    (number_ranged c.args.matches.now c.args.id.now c.args.most c.args.default c.requires.number c.requires.default)
