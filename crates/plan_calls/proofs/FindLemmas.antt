-- What stands behind a front of a text.
use Rattle.std.proofs.Common.{◌≡◌, ℕ, ◌+◌, Bool, true, false, ◌&&◌, eqb, List, [], ◌∷◌, ◌++◌, length, take, drop, Option, Some, None, Bor, refl, sym, ap, ◌∙◌}
use Rattle.std.specs.Str.{bytes_eq}
use Rattle.std.specs.Option.{MatchOption}
use Rattle.std.proofs.lemmas.Bool.{and_parts, both_ways}

pub behind_is : (text front more : List ℕ) → bytes_eq (take (length front) text) front ≡ true → bytes_eq text (front ++ more) ≡ bytes_eq (drop (length front) text) more
behind_is text [] more e = refl
behind_is [] (b ∷ front) more e = absurd (both_ways false refl e)
behind_is (a ∷ text) (b ∷ front) more e =
    let parts = and_parts (eqb a b) (bytes_eq (take (length front) text) front) e in
    ap (λ z. z && bytes_eq text (front ++ more)) parts.0 ∙ behind_is text front more parts.1

pub behind_none : (text front more : List ℕ) → bytes_eq (take (length front) text) front ≡ false → bytes_eq text (front ++ more) ≡ false
behind_none text [] more e = absurd (both_ways true (nothing text e) refl)
  where
    nothing : (text : List ℕ) → bytes_eq (take 0 text) [] ≡ false → true ≡ false
    nothing [] f = f
    nothing (a ∷ text) f = f
behind_none [] (b ∷ front) more e = refl
behind_none (a ∷ text) (b ∷ front) more e = by_test (eqb a b) e (behind_none text front more)
  where
    by_test : (c : Bool) → (c && bytes_eq (take (length front) text) front) ≡ false → (bytes_eq (take (length front) text) front ≡ false → bytes_eq text (front ++ more) ≡ false) → (c && bytes_eq text (front ++ more)) ≡ false
    by_test true f go = go f
    by_test false f go = refl

-- what a look at the front of a text says, whatever stands behind it
pub behind_match : (text front : List ℕ) (r : Option (Bor (List ℕ))) →
    MatchOption r (bytes_eq (take (length front) text) front ≡ false) (λ x. (bytes_eq (take (length front) text) front ≡ true) × (x.now ≡ drop (length front) text) × (length x.now + length front ≡ length text)) →
    MatchOption r ((more : List ℕ) → bytes_eq text (front ++ more) ≡ false) (λ rest. (more : List ℕ) → bytes_eq text (front ++ more) ≡ bytes_eq rest.now more)
behind_match text front None h = λ more. behind_none text front more h
behind_match text front (Some x) h = λ more. behind_is text front more h.0 ∙ ap (λ z. bytes_eq z more) (sym h.1)
