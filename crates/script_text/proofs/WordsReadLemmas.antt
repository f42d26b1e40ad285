-- Names and numbers that are spelled are read.
use Rattle.std.proofs.Common.{◌≡◌, ℕ, ◌≤◌, true, nat_le, List, [], ◌∷◌, ◌++◌, Some, Ok, map, refl, sym, ap, ◌∙◌, arith, append_assoc}
use Rattle.std.proofs.lemmas.List.{append-nil}
use Rattle.std.proofs.lemmas.Bool.Decides.{nat_tests}
use Rattle.script_text.specs.Lines.{is_name, in_parens}
use Rattle.script_text.specs.Names.{place_of}
use Rattle.script_text.specs.Reading.{name_in, known_at, list_at}
use Rattle.script_text.specs.Spells.{ArePlaces}
use Rattle.script_text.proofs.NameInLemmas.{name_in_split}

pub named : (n : List ℕ) → is_name n ≡ true → name_in (in_parens n) ≡ Some n
named n e = name_in_split 40 41 n ∙ rw e refl

pub known : (names : List (List ℕ)) (place : ℕ) (n : List ℕ) (i : ℕ) → is_name n ≡ true → place_of n names ≡ Some i → known_at names place (in_parens n) ≡ Ok i
known names place n i e p = rw (named n e, p) refl

pub list_complete : (declared : List (List ℕ)) (place : ℕ) (list : List ℕ) (names : List (List ℕ)) (places : List ℕ) → ArePlaces declared names places → list_at declared place list (map in_parens names) ≡ Ok (list ++ places)
list_complete declared place list [] [] h = ap (λ (xs : List ℕ). Ok xs) (sym (append-nil list))
list_complete declared place list [] (i ∷ places) h = absurd h
list_complete declared place list (n ∷ names) [] h = absurd h
list_complete declared place list (n ∷ names) (i ∷ places) h = rw (known declared place n i h.0 h.1) (list_complete declared place (list ++ i ∷ []) names places h.2 ∙ ap (λ (xs : List ℕ). Ok xs) (append_assoc list (i ∷ []) places))

pub le_true : (most n : ℕ) → n ≤ most → nat_le n most ≡ true
le_true most n h = grind (arith, nat_tests)
