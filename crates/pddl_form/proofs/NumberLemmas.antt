-- Numbers are within their bound.
use Rattle.std.proofs.Common.{◌≡◌, ℕ, ◌+◌, ◌*◌, ◌-◌, ◌==◌, ◌≤◌, ◌&&◌, Bool, true, false, cond, nat_le, List, [], ◌∷◌, Option, Some, None, Ok, refl, arith}
use Rattle.std.proofs.lemmas.Bool.Decides.{nat_tests}
use Rattle.bd_base.specs.declared.text_err.Cause.TheVariants as cause
use Rattle.pddl_form.specs.Trees.{Named}
use Rattle.pddl_form.specs.Number.{is_digit, are_zeros, most, value_from, value_of, number_at}
use Rattle.pddl_form.proofs.Laws.{needed_ok}

value_small : (some : Bool) (v : ℕ) (bs : List ℕ) (n : ℕ) → v ≤ most → value_from some v bs ≡ Some n → n ≤ most
value_small true v [] n l e = let is : v ≡ n = cc in omega (arith, is, l)
value_small false v [] n l e = cc
value_small some v (b ∷ bs) n l e = by_tests (is_digit b) (nat_le (10 * v + (b - 48)) most) (some && (b == 46 && are_zeros bs)) refl (value_small true (10 * v + (b - 48)) bs n) e
  where
    by_tests : (s t u : Bool) → nat_le (10 * v + (b - 48)) most ≡ t → (10 * v + (b - 48) ≤ most → value_from true (10 * v + (b - 48)) bs ≡ Some n → n ≤ most)
        → cond s (cond t (value_from true (10 * v + (b - 48)) bs) None) (cond u (Some v) None) ≡ Some n → n ≤ most
    by_tests true true u q more h = let m : 10 * v + (b - 48) ≤ most = grind (arith, nat_tests) in more m h
    by_tests true false u q more h = cc
    by_tests false t true q more h = let is : v ≡ n = cc in omega (arith, is, l)
    by_tests false t false q more h = cc

pub number_small : (w : Named) (n : ℕ) → number_at w ≡ Ok n → n ≤ most
number_small w n e = value_small false 0 w.1 n (omega arith) (needed_ok (w.0, cause.BadNumber w.1) (value_of w.1) n e)
