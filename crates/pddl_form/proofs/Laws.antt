-- Steps of reading that succeed, and lists with one more item.
use Rattle.std.proofs.Common.{◌≡◌, ℕ, ◌+◌, Bool, true, false, cond, List, [], ◌∷◌, ◌++◌, Option, Some, None, Result, Ok, Err, length, refl, ap, arith}
use Rattle.std.specs.List.{AllByRecursion}
use Rattle.pddl_form.specs.Fault.{Fault, ◌>>=◌, needed}

pub bind_ok : {A B : Type 0} (r : Result A Fault) (f : A → Result B Fault) (y : B) → (r >>= f) ≡ Ok y → (x : A) × (r ≡ Ok x) × (f x ≡ Ok y)
bind_ok (Ok x) f y e = (x, refl, e)
bind_ok (Err g) f y e = cc

pub declare_back : (t : Bool) (f : Fault) (names more : List (List ℕ)) → cond t (Err f) (Ok names) ≡ Ok more → (t ≡ false) × (more ≡ names)
declare_back true f names more e = cc
declare_back false f names more e = (refl, cc)

pub needed_ok : {A : Type 0} (f : Fault) (r : Option A) (x : A) → needed f r ≡ Ok x → r ≡ Some x
needed_ok f None x e = cc
needed_ok f (Some y) x e = let is : y ≡ x = cc in ap (λ z. Some z) is

pub all_more : {X : Type 0} (P : X → Type 0) (xs : List X) (x : X) → AllByRecursion P xs → P x → AllByRecursion P (xs ++ x ∷ [])
all_more P [] x h p = (p, tt)
all_more P (y ∷ xs) x h p = (h.0, all_more P xs x h.1 p)

pub length_more : {X : Type 0} (xs : List X) (x : X) → length (xs ++ x ∷ []) ≡ length xs + 1
length_more [] x = refl
length_more (y ∷ xs) x = let h = length_more xs x in omega (arith, h)
