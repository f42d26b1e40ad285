-- Sums over the numbers below one.
use Rattle.std.proofs.Common.{◌≡◌, ℕ, zero, suc, ◌+◌, ◌*◌, ◌<◌, ◌≤◌, refl, ap, sym, ◌∙◌, inl, inr, add-one, arith}
use Rattle.std.proofs.lemmas.Bool.{cases_eq, cases_lt}

-- f 0, f 1 and so on up to f (n - 1), added up
abbrev pub sum_below : ℕ → (ℕ → ℕ) → ℕ
sum_below zero f = 0
sum_below (suc n) f = sum_below n f + f n

pub sum_more : (n : ℕ) (f : ℕ → ℕ) → sum_below (n + 1) f ≡ sum_below n f + f n
sum_more n f = rw add-one refl

pub sum_same : (n : ℕ) (f g : ℕ → ℕ) → ((i : ℕ) → i < n → f i ≡ g i) → sum_below n f ≡ sum_below n g
sum_same zero f g h = refl
sum_same (suc n) f g h = omega (arith, sum_same n f g (λ i lt. h i (omega arith)), h n (omega arith))

pub sum_apart : (n : ℕ) (f g h : ℕ → ℕ) → ((i : ℕ) → i < n → f i ≡ g i + h i) → sum_below n f ≡ sum_below n g + sum_below n h
sum_apart zero f g h e = refl
sum_apart (suc n) f g h e = omega (arith, sum_apart n f g h (λ i lt. e i (omega arith)), e n (omega arith))

pub sum_none : (n : ℕ) (f : ℕ → ℕ) → ((i : ℕ) → i < n → f i ≡ 0) → sum_below n f ≡ 0
sum_none zero f h = refl
sum_none (suc n) f h = omega (arith, sum_none n f (λ i lt. h i (omega arith)), h n (omega arith))

-- only one number has a part
pub sum_one : (n : ℕ) (f : ℕ → ℕ) (m v : ℕ) → m < n → f m ≡ v → ((i : ℕ) → i < n → (m ≡ i → ⊥) → f i ≡ 0) → sum_below n f ≡ v
sum_one zero f m v lt at off = absurd (omega arith)
sum_one (suc n) f m v lt at off = elim (cases_eq m n) [
  | inl e ↦ omega (arith, sum_none n f (λ i below. off i (omega arith) (λ same. omega arith)), ap f (sym e) ∙ at)
  | inr ne ↦ omega (arith, sum_one n f m v (omega (arith, ne)) at (λ i below. off i (omega arith)), off n (omega arith) ne)
]

pub sum_within : (n m : ℕ) (f : ℕ → ℕ) → n ≤ m → sum_below n f ≤ sum_below m f
sum_within n zero f le = let e : n ≡ 0 = omega arith in omega (arith, ap (λ z. sum_below z f) e)
sum_within n (suc m) f le = elim (cases_lt m n) [
  | inl up ↦ let e : n ≡ suc m = omega arith in omega (arith, ap (λ z. sum_below z f) e)
  | inr low ↦ omega (arith, sum_within n m f low)
]

pub sum_fits : (n b : ℕ) (f : ℕ → ℕ) → ((i : ℕ) → i < n → f i ≤ b) → sum_below n f ≤ n * b
sum_fits zero b f h = omega arith
sum_fits (suc n) b f h = omega (arith, sum_fits n b f (λ i lt. h i (omega arith)), h n (omega arith))

-- one part is at most the sum of all
pub part_within : (n k : ℕ) (f : ℕ → ℕ) → k < n → sum_below k f + f k ≤ sum_below n f
part_within n k f lt = omega (arith, sum_within (suc k) n f (omega arith))
