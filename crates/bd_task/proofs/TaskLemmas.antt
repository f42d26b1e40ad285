-- What the conditions of a task say of one action.
use Rattle.std.proofs.Common.{◌≡◌, ℕ, zero, suc, ◌<◌, List, [], ◌∷◌, length, get_or, sym, subst, arith}
use Rattle.bd_task.specs.declared.ground.Action.{Action}
use Rattle.bd_task.specs.TaskView.{IsAction, AreActions}

pub IsAction_at : (n : ℕ) (actions : List Action) (x : ℕ) (a : Action) → AreActions n actions → x < length actions → a ≡ get_or actions x a → IsAction n a
IsAction_at n [] x a are lt e = absurd (omega arith)
IsAction_at n (b ∷ rest) zero a are lt e = subst (IsAction n) (sym e) are.0
IsAction_at n (b ∷ rest) (suc x) a are lt e = IsAction_at n rest x a are.1 (omega arith) e

pub IsAction_there : (n m : ℕ) (actions : List Action) (x : ℕ) (a : Action) → n ≡ m → AreActions n actions → x < length actions → a ≡ get_or actions x a → IsAction m a
IsAction_there n m actions x a same are lt e = subst (λ k. IsAction k a) same (IsAction_at n actions x a are lt e)
