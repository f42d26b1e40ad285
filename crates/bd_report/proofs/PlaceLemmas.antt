-- What stands at a place of a list, and what doesn't.
use Rattle.std.proofs.Common.{◌≡◌, ℕ, zero, suc, ◌<◌, ◌≤◌, List, [], ◌∷◌, length, get_or, slice_get, Some, None, refl, sym, ap, arith}

module _ {X : Type 0} where
  pub get_some : (xs : List X) (i : ℕ) (x : X) → i < length xs → x ≡ get_or xs i x → slice_get xs i ≡ Some x
  get_some [] i x lt e = absurd (omega arith)
  get_some (y ∷ xs) zero x lt e = ap (λ (z : X). Some z) (sym e)
  get_some (y ∷ xs) (suc i) x lt e = get_some xs i x (omega arith) e

  pub get_none : (xs : List X) (i : ℕ) → length xs ≤ i → slice_get xs i ≡ None
  get_none [] i le = refl
  get_none (y ∷ xs) zero le = absurd (omega arith)
  get_none (y ∷ xs) (suc i) le = get_none xs i (omega arith)
