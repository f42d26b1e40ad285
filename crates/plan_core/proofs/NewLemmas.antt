-- Numbers are new one after the other exactly where no two are equal.
use Rattle.std.proofs.Common.{◌≡◌, ℕ, Bool, true, false, not, ◌&&◌, ◌||◌, eqb, if◌then◌else◌, List, [], ◌∷◌, refl, sym, ap, ◌∙◌, inl, inr}
use Rattle.std.specs.List.{list_all}
use Rattle.std.proofs.lemmas.Bool.{cases_eq, eq-eqb, ne_eqb}
use Rattle.bd_base.specs.Facts.{has}
use Rattle.bd_tree.specs.WellFormed.{are_distinct}
use Rattle.plan_core.specs.New.{are_new}

abbrev none_in : List ℕ → List ℕ → Bool
none_in seen xs = list_all (λ x. not (has seen x)) xs

same_both : (x y : ℕ) → eqb x y ≡ eqb y x
same_both x y = elim (cases_eq x y) [
  | inl e ↦ eq-eqb x y e ∙ sym (eq-eqb y x (sym e))
  | inr ne ↦ ne_eqb x y ne ∙ sym (ne_eqb y x (λ e. ne (sym e)))
]

exchanged : (a b c d : Bool) → (not (a || b) && (not c && d)) ≡ (not (a || c) && (not b && d))
exchanged true b c d = refl
exchanged false true true d = refl
exchanged false true false d = refl
exchanged false false true d = refl
exchanged false false false d = refl

-- one more that was seen
none_more : (x : ℕ) (seen ys : List ℕ) → none_in (x ∷ seen) ys ≡ (not (has ys x) && none_in seen ys)
none_more x seen [] = refl
none_more x seen (y ∷ ys) =
    ap (λ z. not (eqb x y || has seen y) && z) (none_more x seen ys)
    ∙ exchanged (eqb x y) (has seen y) (has ys x) (none_in seen ys)
    ∙ ap (λ z. not (z || has ys x) && (not (has seen y) && none_in seen ys)) (same_both x y)

asked : (s h n d t : Bool) → t ≡ ((not h && n) && d) → (if s then false else t) ≡ ((not s && n) && (not h && d))
asked true h n d t e = refl
asked false true n d t e = e ∙ nothing n
  where
    nothing : (n : Bool) → false ≡ (n && false)
    nothing true = refl
    nothing false = refl
asked false false n d t e = e

new_is : (seen xs : List ℕ) → are_new seen xs ≡ (none_in seen xs && are_distinct xs)
new_is seen [] = refl
new_is seen (x ∷ xs) =
    asked (has seen x) (has xs x) (none_in seen xs) (are_distinct xs) _ (new_is (x ∷ seen) xs ∙ ap (λ z. z && are_distinct xs) (none_more x seen xs))

none_unseen : (xs : List ℕ) → none_in [] xs ≡ true
none_unseen [] = refl
none_unseen (x ∷ xs) = none_unseen xs

pub new_where_distinct : (xs : List ℕ) → are_new [] xs ≡ are_distinct xs
new_where_distinct xs = new_is [] xs ∙ ap (λ z. z && are_distinct xs) (none_unseen xs)
