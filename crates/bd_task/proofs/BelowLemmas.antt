-- Sets of numbers below a bound keep it where facts are kept, inserted or removed.
use Rattle.std.proofs.Common.{ℕ, ◌<◌, Bool, true, false, cond, not, eqb, nat_lt, List, [], ◌∷◌, filter}
use Rattle.bd_base.specs.Facts.{insert_fact, remove_fact, plus, minus}
use Rattle.bd_task.specs.TaskView.{AreBelow}

pub below-filter : (n : ℕ) (t : ℕ → Bool) (s : List ℕ) → AreBelow n s → AreBelow n (filter t s)
below-filter n t [] b = tt
below-filter n t (x ∷ s) b = by_test (t x) (below-filter n t s b.1)
  where
    by_test : (kept : Bool) → AreBelow n (filter t s) → AreBelow n (cond kept (x ∷ filter t s) (filter t s))
    by_test true h = (b.0, h)
    by_test false h = h

below-insert : (n f : ℕ) (s : List ℕ) → f < n → AreBelow n s → AreBelow n (insert_fact f s)
below-insert n f [] lt b = (lt, tt)
below-insert n f (x ∷ s) lt b = by_test (nat_lt f x) (nat_lt x f) (below-insert n f s lt b.1)
  where
    by_test : (t u : Bool) → AreBelow n (insert_fact f s) → AreBelow n (cond t (f ∷ x ∷ s) (x ∷ cond u (insert_fact f s) s))
    by_test true u h = (lt, b)
    by_test false true h = (b.0, h)
    by_test false false h = b

pub below-plus : (n : ℕ) (s fs : List ℕ) → AreBelow n s → AreBelow n fs → AreBelow n (plus s fs)
below-plus n s [] b c = b
below-plus n s (f ∷ fs) b c = below-plus n (insert_fact f s) fs (below-insert n f s c.0 b) c.1

pub below-minus : (n : ℕ) (s fs : List ℕ) → AreBelow n s → AreBelow n (minus s fs)
below-minus n s [] b = b
below-minus n s (f ∷ fs) b = below-minus n (remove_fact f s) fs (below-filter n (λ x. not (eqb x f)) s b)
