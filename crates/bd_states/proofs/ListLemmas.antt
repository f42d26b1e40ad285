-- Lists of actions, with an action before or behind them.
use Rattle.std.proofs.Common.{◌≡◌, ℕ, ◌+◌, List, [], ◌∷◌, ◌++◌, Option, Some, None, refl, ap, ◌∙◌, arith, slice_get}
use Rattle.bd_task.specs.TaskView.{TaskView}
use Rattle.bd_task.specs.Run.{step_by, run_on, run}
use Rattle.bd_task.specs.Valid.{cost_by, cost_of}
use Rattle.bd_states.specs.Passed.{IsReached, passed}
use Rattle.bd_states.proofs.EntryLemmas.{none_some, some_is}

pub run_more : (task : TaskView) (s : List ℕ) (list : List ℕ) (x : ℕ) (t u : List ℕ) → run task s list ≡ Some t → step_by (slice_get task.actions x) t ≡ Some u → run task s (list ++ x ∷ []) ≡ Some u
run_more task s [] x t u r e = rw (ap (λ z. step_by (slice_get task.actions x) z) (some_is s t r) ∙ e)
run_more task s (a ∷ rest) x t u r e = from (step_by (slice_get task.actions a) s) r (λ w h. run_more task w rest x t u h e)
  where
    from : (o : Option (List ℕ)) → run_on o (λ w. run task w rest) ≡ Some t → ((w : List ℕ) → run task w rest ≡ Some t → run task w (rest ++ x ∷ []) ≡ Some u) →
        run_on o (λ w. run task w (rest ++ x ∷ [])) ≡ Some u
    from None r later = absurd (none_some t r)
    from (Some w) r later = later w r

pub cost_more : (task : TaskView) (list : List ℕ) (x : ℕ) → cost_of task (list ++ x ∷ []) ≡ cost_of task list + cost_by (slice_get task.actions x)
cost_more task [] x = omega arith
cost_more task (a ∷ rest) x = let e = cost_more task rest x in omega arith

pub reached_more : (task : TaskView) (c : ℕ) (t u : List ℕ) (x : ℕ) → IsReached task c t → step_by (slice_get task.actions x) t ≡ Some u → IsReached task (c + cost_by (slice_get task.actions x)) u
reached_more task c t u x r e = record {
  list = r.list ++ x ∷ [];
  ends = run_more task task.init r.list x t u r.ends e;
  cheap = (let le = r.cheap in let more = cost_more task r.list x in omega arith);
}

pub run_first : (task : TaskView) (s t : List ℕ) (x : ℕ) (rest : List ℕ) → step_by (slice_get task.actions x) s ≡ Some t → run task s (x ∷ rest) ≡ run task t rest
run_first task s t x rest e = rw e refl

pub passed_first : (task : TaskView) (s t : List ℕ) (x : ℕ) (rest : List ℕ) → step_by (slice_get task.actions x) s ≡ Some t → passed task s (x ∷ rest) ≡ s ∷ passed task t rest
passed_first task s t x rest e = rw e refl
