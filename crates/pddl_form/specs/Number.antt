-- Numbers: digits, behind which a point and zeros may stand.
use Rattle.std.specs.Prelude.{ℕ, ◌+◌, ◌*◌, ◌-◌, ◌==◌, ◌&&◌, Bool, true, false, cond, nat_le, List, [], ◌∷◌, Option, Some, None, Result}
use Rattle.std.specs.List.{list_all}
use Rattle.bd_base.specs.declared.text_err.Cause.TheVariants as cause
use Rattle.pddl_form.specs.Fault.{Fault, needed}
use Rattle.pddl_form.specs.Trees.{Named}

abbrev pub is_digit : ℕ → Bool
is_digit b = nat_le 48 b && nat_le b 57

abbrev pub is_zero : ℕ → Bool
is_zero b = b == 48

-- one zero and more
abbrev pub are_zeros : List ℕ → Bool
are_zeros [] = false
are_zeros (b ∷ bs) = is_zero b && list_all is_zero bs

-- the greatest number
abbrev pub most : ℕ
most = 1_000_000_000

abbrev pub within : ℕ → (ℕ → Option ℕ) → Option ℕ
within n go = cond (nat_le n most) (go n) None

-- The number whose digits until now have a value, where there are some or not.
abbrev pub value_from : Bool → ℕ → List ℕ → Option ℕ
value_from some value [] = cond some (Some value) None
value_from some value (b ∷ bs) = cond (is_digit b) (within (10 * value + (b - 48)) (λ n. value_from true n bs)) (cond (some && (b == 46 && are_zeros bs)) (Some value) None)

-- the number that a word is, of at most 1,000,000,000
abbrev pub value_of : List ℕ → Option ℕ
value_of word = value_from false 0 word

abbrev pub number_at : Named → Result ℕ Fault
number_at w = needed (w.0, cause.BadNumber w.1) (value_of w.1)
