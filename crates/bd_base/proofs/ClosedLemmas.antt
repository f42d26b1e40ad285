-- Closed orders, row by row.
use Rattle.std.proofs.Common.{◌≡◌, ℕ, Bool, not, ◌||◌, ◌==◌, List, [], ◌∷◌, refl, sym, inl, inr}
use Rattle.std.specs.List.{list_all}
use Rattle.std.proofs.lemmas.Bool.{cases_eq, eq-eqb, ne_eqb}
use Rattle.bd_base.specs.Facts.{is_subset}
use Rattle.bd_base.specs.Pairs.{after_of, is_before, is_closed}
use Rattle.bd_base.proofs.RowLemmas.{before_by_row}

-- whether all that the second position is before, the first is before too
abbrev pub closes : List (ℕ × ℕ) → ℕ × ℕ → Bool
closes order p = is_subset (after_of order p.1) (after_of order p.0)

closes_pairs : (order qs : List (ℕ × ℕ)) (i j : ℕ) → list_all (λ q. not (j == q.0) || is_before order i q.1) qs ≡ is_subset (after_of qs j) (after_of order i)
closes_pairs order [] i j = refl
closes_pairs order (q ∷ qs) i j = elim (cases_eq j q.0) [
  | inl e ↦ rw (eq-eqb j q.0 e, eq-eqb q.0 j (sym e)) (rw (before_by_row order i q.1, closes_pairs order qs i j) refl)
  | inr ne ↦ rw (ne_eqb j q.0 ne, ne_eqb q.0 j (λ e. ne (sym e))) (closes_pairs order qs i j)
]

all_agree : (p q : ℕ × ℕ → Bool) (xs : List (ℕ × ℕ)) → ((x : ℕ × ℕ) → p x ≡ q x) → list_all p xs ≡ list_all q xs
all_agree p q [] h = refl
all_agree p q (x ∷ xs) h = rw (h x, all_agree p q xs h) refl

pub closed_by_rows : (order : List (ℕ × ℕ)) → list_all (closes order) order ≡ is_closed order
closed_by_rows order = sym (all_agree _ (closes order) order (λ p. closes_pairs order order p.0 p.1))
