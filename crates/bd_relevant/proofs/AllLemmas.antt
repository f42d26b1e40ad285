-- All facts of a task are all that matter.
use Rattle.std.proofs.Common.{◌≡◌, ℕ, ◌+◌, ◌<◌, true, List, length, refl, ap, ◌∙◌, inl, inr, arith}
use Rattle.std.proofs.lemmas.Bool.{cases_eq, eq-eqb, ne_eqb}
use Rattle.bd_base.specs.Facts.{IsRising, has, insert_fact}
use Rattle.bd_base.proofs.FactLemmas.{has-insert_fact}
use Rattle.bd_task.specs.TaskView.{TaskView, IsTask}
use Rattle.bd_heur.proofs.SettlingLemmas.{below_at, action_at, get_In}
use Rattle.bd_cut.specs.Cut.{IsUsed, AreRelevant}

-- one fact more
pub more_facts : (n : ℕ) (facts more : List ℕ) → more ≡ insert_fact n facts → ((q : ℕ) → q < n → has facts q ≡ true) → (q : ℕ) → q < n + 1 → has more q ≡ true
more_facts n facts more is all q lt = ap (λ z. has z q) is ∙ has-insert_fact n facts q ∙ elim (cases_eq n q) [
  | inl e ↦ rw (eq-eqb n q e) refl
  | inr ne ↦ rw (ne_eqb n q ne) (all q (omega (arith, ne, lt)))
]

pub all_matter : (task : TaskView) (facts : List ℕ) → IsTask task → IsRising task.init → ((q : ℕ) → q < length task.facts → has facts q ≡ true) → AreRelevant task facts
all_matter task facts is up all = record {
  rising = up;
  lacking = λ q u out. all q (below q u);
  deleted = λ x a q k d u. all q (below q u);
}
  where
    below : (q : ℕ) → IsUsed task facts q → q < length task.facts
    below q (inl i) = below_at (length task.facts) task.goal q is.goal i
    below q (inr (x, a, k, i)) = below_at (length task.facts) a.pre q (action_at (length task.facts) task.actions a is.actions (get_In a task.actions x k.action)).pre i
