-- What breaks a list, and what runs.
use Rattle.std.proofs.Common.{◌≡◌, ◌↔◌, ℕ, zero, suc, ◌+◌, ◌<◌, Bool, true, false, cond, not, ◌&&◌, List, [], ◌∷◌, length, get_or, drop, Option, Some, None, refl, sym, ap, ◌∙◌, subst, arith, add-one, All, drop-cons, Result, Ok, Err, IfOk}
use Rattle.std.specs.List.{slice_get, AllByRecursion}
use Rattle.std.proofs.lemmas.Bool.{both_ways}
use Rattle.std.proofs.lemmas.List.Elements.{recursion_from_All}
use Rattle.bd_base.specs.Facts.{has, is_subset}
use Rattle.bd_task.specs.declared.ground.Action.{Action}
use Rattle.bd_task.specs.TaskView.{TaskView}
use Rattle.bd_task.specs.Run.{after, lacking, step_by, run_on, run, Steps}
use Rattle.bd_task.specs.Valid.{HoldsIn, IsValid, Break, step_lacks, goal_lacks, break_at_goal, break_at_step, break_from, first_break, cost_of}
use Rattle.seq_check.specs.Answers.{Answers, IsOkOrNoMemory}
use Rattle.seq_check.specs.declared.judging.Broken.{Broken}
use Rattle.seq_check.specs.declared.judging.Broken.TheVariants.{Step, Goal, NoMemory}

-- a set lacks no fact of a list just where the list is a subset
abbrev pub Lacks : Option ℕ → Bool → Type 0
Lacks None b = b ≡ true
Lacks (Some f) b = b ≡ false

pub lacking_is : (fs s : List ℕ) → Lacks (lacking fs s) (is_subset fs s)
lacking_is [] s = refl
lacking_is (f ∷ fs) s =
    elim (has s f) as (λ b. Lacks (cond (not b) (Some f) (lacking fs s)) (b && is_subset fs s)) [ true ↦ lacking_is fs s | false ↦ refl ]

pub subset_from_lacking : (fs s : List ℕ) → lacking fs s ≡ None → is_subset fs s ≡ true
subset_from_lacking fs s e = subst (λ o. Lacks o (is_subset fs s)) e (lacking_is fs s)

pub no_subset_from_lacking : (fs s : List ℕ) (f : ℕ) → lacking fs s ≡ Some f → is_subset fs s ≡ false
no_subset_from_lacking fs s f e = subst (λ o. Lacks o (is_subset fs s)) e (lacking_is fs s)

-- an action that is there, where nothing lacks
pub step_by-runs : (a : Action) (s : List ℕ) → lacking a.pre s ≡ None → step_by (Some a) s ≡ Some (after a s)
step_by-runs a s e = rw (subset_from_lacking a.pre s e)

pub step_by-stops : (a : Action) (s : List ℕ) (f : ℕ) → lacking a.pre s ≡ Some f → step_by (Some a) s ≡ None
step_by-stops a s f e = rw (no_subset_from_lacking a.pre s f e)

pub stepped : (a : Action) (o : Option Action) (s t : List ℕ) (ran : Bool) → o ≡ Some a → lacking a.pre s ≡ None → Steps (step_by o s) ran s t → t ≡ after a s
stepped a o s t ran is e h = (subst (λ z. Steps z ran s t) (ap (λ z. step_by z s) is ∙ step_by-runs a s e) h).1

-- one action more, in the middle of a list
module _ (task : TaskView) (list : List ℕ) (s : List ℕ) (place i x : ℕ) (a : Action) (lt : i < length list) (is : x ≡ get_or list i x) (at : slice_get task.actions x ≡ Some a) where
  rest_is : drop i list ≡ x ∷ drop (i + 1) list
  rest_is = rw (add-one) (drop-cons list i x lt ∙ ap (λ z. z ∷ drop (suc i) list) (sym is))

  pub break_from-runs : lacking a.pre s ≡ None → break_from task s place (drop i list) ≡ break_from task (after a s) (place + 1) (drop (i + 1) list)
  break_from-runs e = rw rest_is (rw at (rw e))

  pub break_from-stops : (f : ℕ) → lacking a.pre s ≡ Some f → break_from task s place (drop i list) ≡ Some (step_lacks place f)
  break_from-stops f e = rw rest_is (rw at (rw e))

  pub cost_of-more : cost_of task (drop i list) ≡ a.cost + cost_of task (drop (i + 1) list)
  cost_of-more = rw rest_is (rw at)

-- a list that nothing breaks is valid, and no other
abbrev pub Sound : List ℕ → Option (List ℕ) → Option Break → Type 0
Sound goal end None = HoldsIn goal end
Sound goal end (Some w) = HoldsIn goal end → ⊥

abbrev AreThere : TaskView → List ℕ → Type 0
AreThere task = AllByRecursion (λ x. x < length task.actions)

there : (actions : List Action) (x : ℕ) → x < length actions → (a : Action) × (slice_get actions x ≡ Some a)
there [] x lt = absurd (omega arith)
there (a ∷ rest) zero lt = (a, refl)
there (a ∷ rest) (suc x) lt = there rest x (omega arith)

goal_is : (goal s : List ℕ) (o : Option ℕ) → Lacks o (is_subset goal s) → Sound goal (Some s) (break_at_goal o)
goal_is goal s None h = h
goal_is goal s (Some f) h = λ e. both_ways _ h e

step_is : (goal s : List ℕ) (place : ℕ) (a : Action) (k : List ℕ → Option (List ℕ)) (later : Option Break) (o : Option ℕ) → lacking a.pre s ≡ o → Sound goal (k (after a s)) later →
    Sound goal (run_on (step_by (Some a) s) k) (break_at_step place o later)
step_is goal s place a k later None e h = rw (step_by-runs a s e) h
step_is goal s place a k later (Some f) e h = rw (step_by-stops a s f e) (λ never. never)

pub break_from-is : (task : TaskView) (list s : List ℕ) (place : ℕ) → AreThere task list → Sound task.goal (run task s list) (break_from task s place list)
break_from-is task [] s place r = goal_is task.goal s (lacking task.goal s) (lacking_is task.goal s)
break_from-is task (x ∷ rest) s place r =
    let a = there task.actions x r.0 in
    rw (a.1) (step_is task.goal s place a.0 (λ t. run task t rest) _ _ refl (break_from-is task rest (after a.0 s) (place + 1) r.1))

-- the same at the start, for a list of actions that are there
module _ (task : TaskView) (list : List ℕ) (r : All (λ x. x < length task.actions) list) where
  pub valid_from_none : first_break task list ≡ None → IsValid task list
  valid_from_none e = subst (Sound task.goal (run task task.init list)) e (break_from-is task list task.init 1 (recursion_from_All (λ x. x < length task.actions) list r))

  pub invalid_from_some : (w : Break) → first_break task list ≡ Some w → IsValid task list → ⊥
  invalid_from_some w e = subst (Sound task.goal (run task task.init list)) e (break_from-is task list task.init 1 (recursion_from_All (λ x. x < length task.actions) list r))

  none_from_valid : (w : Option Break) → first_break task list ≡ w → IsValid task list → first_break task list ≡ None
  none_from_valid None e v = e
  none_from_valid (Some w) e v = absurd (invalid_from_some w e v)

  pub unbroken_is : (first_break task list ≡ None) ↔ IsValid task list
  unbroken_is = (valid_from_none, none_from_valid (first_break task list) refl)

-- what an answer says of a list
module _ (task : TaskView) (list : List ℕ) (there : All (λ x. x < length task.actions) list) where
  pub valid_from_answer : (w : Option Break) (r : Result ℕ Broken) → first_break task list ≡ w → Answers w (cost_of task list) r → IfOk r (λ _. IsValid task list)
  valid_from_answer None (Ok told) e h = valid_from_none task list there e
  valid_from_answer (Some w) (Ok told) e h = absurd (told_break w h)
    where
      told_break : (w : Break) → Answers (Some w) (cost_of task list) (Ok told) → ⊥
      told_break (step_lacks n f) h = h
      told_break (goal_lacks f) h = h
  valid_from_answer w (Err b) e h = tt

  pub ok_from_valid : (w : Option Break) (r : Result ℕ Broken) → first_break task list ≡ w → Answers w (cost_of task list) r → IsValid task list → IsOkOrNoMemory r
  ok_from_valid w (Ok told) e h v = tt
  ok_from_valid w (Err NoMemory) e h v = tt
  ok_from_valid None (Err (Step at fact)) e h v = h
  ok_from_valid None (Err (Goal fact)) e h v = h
  ok_from_valid (Some w) (Err (Step at fact)) e h v = invalid_from_some task list there w e v
  ok_from_valid (Some w) (Err (Goal fact)) e h v = invalid_from_some task list there w e v

-- a fact that the state has is no fact that lacks
pub lacking_later : (f : ℕ) (fs s : List ℕ) (t : Bool) → t ≡ has s f → t ≡ true → lacking (f ∷ fs) s ≡ lacking fs s
lacking_later f fs s t e h = rw (← e, h)
