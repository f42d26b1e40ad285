use Rattle.std.proofs.Common.{◌≡◌, ◌/◌, ◌%◌, get_or, eqb, ap, sym, ◌∙◌, arith}
use Rattle.std.specs.Int.{bit_at}
use Rattle.std.proofs.lemmas.Nat.Bits.{bit_at-zero, shr_and_one}
use Rattle.bd_base.proofs.WordLemmas.{has_row_zero}
use Rattle.bd_base.proofs.places.has_place.Goals as goal

pub returns-in-None : goal.returns-in-None
returns-in-None c =
    let out : get_or c.args.words.now (c.args.at / 64) 0 ≡ 0 = sym (c.in-None.ensures.lookup.4 (omega arith) 0) in
    sym (has_row_zero c.args.words.now c.args.at ∙ rw (out, bit_at-zero (c.args.at % 64)))

pub returns-in-Some : goal.returns-in-Some
returns-in-Some c =
    let word : c.in-Some.word.now ≡ get_or c.args.words.now (c.args.at / 64) 0 = c.in-Some.ensures.lookup.3.1 0 in
    rw (shr_and_one c.in-Some.word.now (c.args.at % 64)) (ap (λ z. eqb (bit_at z (c.args.at % 64)) 1) word ∙ sym (has_row_zero c.args.words.now c.args.at))
