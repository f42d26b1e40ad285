use Rattle.std.proofs.Common.{◌≡◌, ◌+◌, ◌++◌, [], List, ℕ, length, refl, sym, ap, ◌∙◌, arith, rules}
use Rattle.bd_base.specs.Bits.{bits_of, row_of}
use Rattle.bd_base.proofs.WordLemmas.{bits_zero, nothing, first_bit, next_word}
use Rattle.bd_base.proofs.places.PlacesIterator.next.Goals as goal

pub returns-in_default-clause-steps : goal.returns-in_default-clause-steps
returns-in_default-clause-steps c =
    let w = c.loop-self.self-inside in
    let off : w.left ≡ 0 = c.loop-self-test.true in
    let none : w.rest.now ≡ [] = nothing w.rest.now c.in_default.ensures.cases in
    let empty : bits_of w.base w.left ++ row_of (w.base + 64) w.rest.now ≡ [] = rw (off, none, bits_zero w.base) refl in
    (sym c.self.view_is ∙ sym c.loop-self.invariant.same ∙ empty, empty)

pub loop-self-preserved : goal.loop-self-preserved
loop-self-preserved c =
    let w = c.loop-self.self-inside in
    let off : w.left ≡ 0 = c.loop-self-test.true in
    let split = c.in-Some.ensures.cases in
    record {
      fits = omega (arith, c.loop-self.invariant.fits, split.1);
      same = next_word w.base w.left c.in-Some.first.now w.rest.now c.in-Some.rest.now off split.0 ∙ c.loop-self.invariant.same;
    }

pub returns-clause-steps : goal.returns-clause-steps
returns-clause-steps c =
    let w = c.loop-self.self-inside in
    let split = first_bit w.base w.left (omega arith) (omega arith) in
    sym c.self.view_is ∙ sym c.loop-self.invariant.same ∙ ap (λ z. z ++ row_of (w.base + 64) w.rest.now) split

pub returns-clause-goes : goal.returns-clause-goes
returns-clause-goes c =
    let split = returns-clause-steps c in
    let less = ap (λ (z : List ℕ). length z) split in
    search rules
