-- Total orders, row by row.
use Rattle.std.proofs.Common.{◌≡◌, ℕ, zero, suc, ◌+◌, ◌-◌, ◌<◌, ◌≤◌, List, [], ◌∷◌, ◌++◌, refl, sym, ap, ◌∙◌, append_assoc, arith}
use Rattle.bd_base.specs.Pairs.{before_each, in_turn}

one_more : (n i : ℕ) → i < n → n - i ≡ suc (n - (i + 1))
one_more n i lt = omega arith

-- one pair more of a row
pub before_each-more : (pairs : List (ℕ × ℕ)) (i j n : ℕ) → j < n → (pairs ++ (i, j) ∷ []) ++ before_each i (j + 1) (n - (j + 1)) ≡ pairs ++ before_each i j (n - j)
before_each-more pairs i j n lt = append_assoc pairs ((i, j) ∷ []) (before_each i (j + 1) (n - (j + 1))) ∙ ap (λ k. pairs ++ before_each i j k) (sym (one_more n j lt))

-- one row more
pub in_turn-more : (pairs : List (ℕ × ℕ)) (i n : ℕ) → i < n → (pairs ++ before_each i (i + 1) (n - (i + 1))) ++ in_turn (i + 1) (n - (i + 1)) ≡ pairs ++ in_turn i (n - i)
in_turn-more pairs i n lt = append_assoc pairs (before_each i (i + 1) (n - (i + 1))) (in_turn (i + 1) (n - (i + 1))) ∙ ap (λ k. pairs ++ in_turn i k) (sym (one_more n i lt))

-- the last row has no pairs
pub in_turn-last : (i k : ℕ) → k ≤ 1 → in_turn i k ≡ []
in_turn-last i zero le = refl
in_turn-last i (suc zero) le = refl
in_turn-last i (suc (suc k)) le = absurd (omega arith)
