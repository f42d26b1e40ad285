-- Texts that are put behind one another.
use Rattle.std.proofs.Common.{◌≡◌, ◌∙◌, ap, sym, subst, refl, ℕ, suc, ◌+◌, List, ◌++◌, arith}
use Rattle.std.proofs.lemmas.List.{append_assoc}
use Rattle.bd_gen.specs.Errands.{texts_to}

texts_next : (f : ℕ → List ℕ) (i : ℕ) → texts_to f (i + 1) ≡ texts_to f i ++ f (i + 1)
texts_next f i =
    let next : suc i ≡ i + 1 = omega arith in
    subst (λ (m : ℕ). texts_to f m ≡ texts_to f i ++ f m) next refl

-- one more text behind those so far
pub one_more : (f : ℕ → List ℕ) (start before after : List ℕ) (i : ℕ) → before ≡ start ++ texts_to f i → after ≡ before ++ f (i + 1) → after ≡ start ++ texts_to f (i + 1)
one_more f start before after i e h =
    h ∙ ap (λ (xs : List ℕ). xs ++ f (i + 1)) e ∙ append_assoc start (texts_to f i) (f (i + 1)) ∙ ap (λ (xs : List ℕ). start ++ xs) (sym (texts_next f i))

-- three texts in turn
pub three : (t u v w a b c : List ℕ) → u ≡ t ++ a → v ≡ u ++ b → w ≡ v ++ c → w ≡ t ++ ((a ++ b) ++ c)
three t u v w a b c first second third =
    third ∙ ap (λ (xs : List ℕ). xs ++ c) (second ∙ ap (λ (xs : List ℕ). xs ++ b) first ∙ append_assoc t a b) ∙ append_assoc t (a ++ b) c
