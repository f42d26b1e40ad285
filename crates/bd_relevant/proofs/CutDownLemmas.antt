-- The kept actions, cut down, and the cut task.
use Rattle.std.proofs.Common.{◌≡◌, ℕ, zero, suc, ◌+◌, ◌<◌, ◌≤◌, Bool, true, false, not, ◌&&◌, eqb, List, [], ◌∷◌, ◌++◌, length, length-append, Some, None, refl, sym, ap, ◌∙◌, subst, inl, inr, ◌⊎◌, arith, slice_get}
use Rattle.std.proofs.lemmas.Bool.{both_ways, and_from, and_parts, eqb-true, cases_eq}
use Rattle.bd_base.specs.Facts.{IsRising, has, minus}
use Rattle.bd_base.proofs.FactLemmas.{has-minus, rising_same, rising-minus}
use Rattle.bd_task.specs.TaskView.{TaskView, AreBelow, AreActions, IsAction, IsTask, are_apart}
use Rattle.bd_task.specs.declared.ground.Action.{Action}
use Rattle.bd_task.proofs.BelowLemmas.{below-filter}
use Rattle.bd_states.proofs.EntryLemmas.{some_is, none_some}
use Rattle.bd_search.specs.Verdict.{IsTrueVerdict}
use Rattle.bd_search.specs.declared.verdict.Kind.{Kind}
use Rattle.bd_cut.specs.Cut.{cut_set, cut_action, is_kept, renumbered_kind, IsKept, AreRelevant, IsCut}
use Rattle.bd_cut.proofs.CutLemmas.{verdict_too}
use Rattle.bd_relevant.proofs.SetLemmas.{has-filter, rising-filter}
use Rattle.bd_relevant.specs.CutDown.{IsCutDown}
use Rattle.bd_relevant.specs.Uses.{AreCutActions}
use Rattle.bd_relevant.specs.declared.cutting.CutTask.{CutTask}

-- without what isn't relevant
pub cut_by_minus : (relevant s others cut : List ℕ) → IsRising s → others ≡ minus s relevant → cut ≡ minus s others → cut ≡ cut_set relevant s
cut_by_minus relevant s others cut up others_is cut_is =
    cut_is ∙ rising_same (minus s others) (cut_set relevant s) (rising-minus s others up) (rising-filter (has relevant) s up)
    (λ q. has-minus s others q ∙ ap (λ b. not b && has s q) (ap (λ z. has z q) others_is ∙ has-minus s relevant q) ∙ turned (has relevant q) (has s q) ∙ sym (has-filter (has relevant) s q))
  where
    turned : (r b : Bool) → (not (not r && b) && b) ≡ (r && b)
    turned true true = refl
    turned true false = refl
    turned false true = refl
    turned false false = refl

-- a cut action is an action
apart_out : (xs ys : List ℕ) → are_apart xs ys ≡ true → (q : ℕ) → has xs q ≡ true → has ys q ≡ true → ⊥
apart_out [] ys a q i j = both_ways false refl i
apart_out (x ∷ xs) ys a q i j = elim (Rattle.std.proofs.lemmas.Bool.or_cases (eqb x q) (has xs q) i) [
  | inl same ↦ both_ways (has ys x) (turned (has ys x) (and_parts _ _ a).0) (subst (λ z. has ys z ≡ true) (sym (eqb-true x q same)) j)
  | inr later ↦ apart_out xs ys (and_parts _ _ a).1 q later j
]
  where
    turned : (b : Bool) → not b ≡ true → b ≡ false
    turned true e = sym e
    turned false e = refl

apart_from : (xs ys : List ℕ) → ((q : ℕ) → has xs q ≡ true → has ys q ≡ true → ⊥) → are_apart xs ys ≡ true
apart_from [] ys h = refl
apart_from (x ∷ xs) ys h = and_from _ _ (by (has ys x) refl) (apart_from xs ys (λ q i j. h q (Rattle.std.proofs.lemmas.Bool.or_right _ _ i) j))
  where
    by : (b : Bool) → has ys x ≡ b → not b ≡ true
    by true e = absurd (h x (Rattle.std.proofs.lemmas.Bool.or_left _ _ (Rattle.std.proofs.lemmas.Bool.eq-eqb x x refl)) e)
    by false e = refl

cut_fits : (n : ℕ) (relevant : List ℕ) (a : Action) → IsAction n a → IsAction n (cut_action relevant a)
cut_fits n relevant a fits = record {
  cheap = fits.cheap;
  pre = below-filter n (has relevant) a.pre fits.pre;
  add = below-filter n (has relevant) a.add fits.add;
  del = below-filter n (has relevant) a.del fits.del;
  apart = apart_from (cut_set relevant a.add) (cut_set relevant a.del) (λ q i j.
      apart_out a.add a.del fits.apart q (and_parts _ _ (sym (has-filter (has relevant) a.add q) ∙ i)).1 (and_parts _ _ (sym (has-filter (has relevant) a.del q) ∙ j)).1);
}

module _ {X : Type 0} where
  get_last_or : (xs : List X) (x : X) (k : ℕ) (y : X) → slice_get (xs ++ x ∷ []) k ≡ Some y → (slice_get xs k ≡ Some y) ⊎ ((k ≡ length xs) × (x ≡ y))
  get_last_or [] x zero y g = inr (refl, some_is x y g)
  get_last_or [] x (suc k) y g = absurd (none_some y g)
  get_last_or (z ∷ xs) x zero y g = inl g
  get_last_or (z ∷ xs) x (suc k) y g = elim (get_last_or xs x k y g) [ inl old ↦ inl old | inr new ↦ inr (ap suc new.0, new.1) ]

  get_old : (xs : List X) (x : X) (k : ℕ) (y : X) → slice_get xs k ≡ Some y → slice_get (xs ++ x ∷ []) k ≡ Some y
  get_old [] x k y g = absurd (none_some y g)
  get_old (z ∷ xs) x zero y g = g
  get_old (z ∷ xs) x (suc k) y g = get_old xs x k y g

  get_new : (xs : List X) (x : X) → slice_get (xs ++ x ∷ []) (length xs) ≡ Some x
  get_new [] x = refl
  get_new (z ∷ xs) x = get_new xs x

  get_none : (xs : List X) (k : ℕ) → length xs ≤ k → slice_get xs k ≡ None
  get_none [] k le = refl
  get_none (z ∷ xs) zero le = absurd (omega arith)
  get_none (z ∷ xs) (suc k) le = get_none xs k (omega arith)

  none_far : (xs : List X) (k : ℕ) → slice_get xs k ≡ None → length xs ≤ k
  none_far [] k g = omega arith
  none_far (z ∷ xs) zero g = absurd (none_some z (sym g))
  none_far (z ∷ xs) (suc k) g = let le = none_far xs k g in omega arith

actions_more : (n : ℕ) (actions : List Action) (a : Action) → AreActions n actions → IsAction n a → AreActions n (actions ++ a ∷ [])
actions_more n [] a are is = (is, tt)
actions_more n (b ∷ actions) a are is = (are.0, actions_more n actions a are.1 is)

pub cut_none : (task : TaskView) (relevant numbers : List ℕ) (actions : List Action) → numbers ≡ [] → actions ≡ [] → AreCutActions task relevant 0 numbers actions
cut_none task relevant numbers actions e f = subst (λ z. AreCutActions task relevant 0 z actions) (sym e) (subst (AreCutActions task relevant 0 []) (sym f) (record {
  same = refl;
  few = omega arith;
  some = λ k x e. absurd (none_some x e);
  all = λ x a lt i. absurd (omega arith);
  fit = tt;
}))

module _ (task : TaskView) (relevant : List ℕ) (n : ℕ) (a : Action) (at : slice_get task.actions n ≡ Some a) where
  same_at : (x : ℕ) (b : Action) → x ≡ n → IsKept task relevant x b → a ≡ b
  same_at x b e k = some_is a b (sym at ∙ ap (slice_get task.actions) (sym e) ∙ k.action)

  -- an action that adds nothing relevant is left out
  pub cut_left_out : (numbers : List ℕ) (actions : List Action) (t : Bool) → t ≡ is_kept relevant a → t ≡ false → AreCutActions task relevant n numbers actions → AreCutActions task relevant (n + 1) numbers actions
  cut_left_out numbers actions t is no_add are = record {
    same = are.same;
    few = (let le = are.few in omega arith);
    some = are.some;
    all = λ x b lt k. elim (cases_eq x n) [
      | inl e ↦ absurd (both_ways t no_add (is ∙ ap (is_kept relevant) (same_at x b e k) ∙ k.adds))
      | inr ne ↦ are.all x b (omega (arith, ne)) k
    ];
    fit = are.fit;
  }

  -- an action that adds a relevant fact is put behind the others
  pub cut_put : (numbers more : List ℕ) (actions new : List Action) (cut : Action) (t : Bool) → IsAction (length task.facts) a → t ≡ is_kept relevant a → t ≡ true → cut ≡ cut_action relevant a →
      more ≡ numbers ++ n ∷ [] → new ≡ actions ++ cut ∷ [] → AreCutActions task relevant n numbers actions → AreCutActions task relevant (n + 1) more new
  cut_put numbers more actions new cut t fits is adds cut_is more_is new_is are = record {
    same = more_long ∙ ap (λ z. z + 1) are.same ∙ sym new_long;
    few = (let le = are.few in omega (arith, new_long, le));
    some = λ k x e. some_by k x (get_last_or numbers n k x (sym (ap (λ z. slice_get z k) more_is) ∙ e));
    all = λ x b lt k. elim (cases_eq x n) [
      | inl e ↦ (length numbers, ap (λ z. slice_get z (length numbers)) more_is ∙ get_new numbers n ∙ ap Some (sym e))
      | inr ne ↦ let old = are.all x b (omega (arith, ne)) k in (old.0, ap (λ z. slice_get z old.0) more_is ∙ get_old numbers n old.0 x old.1)
    ];
    fit = subst (AreActions (length task.facts)) (sym new_is) (actions_more (length task.facts) actions cut are.fit (subst (IsAction (length task.facts)) (sym cut_is) (cut_fits (length task.facts) relevant a fits)));
  }
    where
      more_long : length more ≡ length numbers + 1
      more_long = ap (λ (z : List ℕ). length z) more_is ∙ length-append numbers (n ∷ [])

      new_long : length new ≡ length actions + 1
      new_long = ap (λ (z : List Action). length z) new_is ∙ length-append actions (cut ∷ [])

      some_by : (k x : ℕ) → (slice_get numbers k ≡ Some x) ⊎ ((k ≡ length numbers) × (n ≡ x)) → (b : Action) × IsKept task relevant x b × (slice_get new k ≡ Some (cut_action relevant b))
      some_by k x (inl old) = let f = are.some k x old in (f.0, f.1, ap (λ z. slice_get z k) new_is ∙ get_old actions cut k (cut_action relevant f.0) f.2)
      some_by k x (inr last) = (
        a,
        record { action = ap (slice_get task.actions) (sym last.1) ∙ at; adds = sym is ∙ adds },
        ap (λ z. slice_get new z) (last.0 ∙ are.same) ∙ ap (λ z. slice_get z (length actions)) new_is ∙ get_new actions cut ∙ ap Some cut_is,
      )

module _ (task : TaskView) (relevant numbers : List ℕ) (actions : List Action) (names : List (List ℕ)) (init goal : List ℕ) (is : IsTask task) (are : AreCutActions task relevant (length task.actions) numbers actions)
    (named : length names ≡ length task.facts) (init_is : init ≡ cut_set relevant task.init) (goal_is : goal ≡ cut_set relevant task.goal) where
  abbrev cut_view : TaskView
  cut_view = record { facts = names; actions = actions; init = init; goal = goal }

  pub cut_is_task : IsTask cut_view
  cut_is_task = record {
    few_facts = (let le = is.few_facts in omega (arith, named, le));
    few_actions = (let le = is.few_actions in let few = are.few in omega arith);
    actions = subst (λ k. AreActions k actions) (sym named) are.fit;
    init = subst (λ k. AreBelow k init) (sym named) (subst (AreBelow (length task.facts)) (sym init_is) (below-filter (length task.facts) (has relevant) task.init is.init));
    goal = subst (λ k. AreBelow k goal) (sym named) (subst (AreBelow (length task.facts)) (sym goal_is) (below-filter (length task.facts) (has relevant) task.goal is.goal));
  }

  there : (xs : List Action) (x : ℕ) (a : Action) → slice_get xs x ≡ Some a → x < length xs
  there [] x a e = absurd (none_some a e)
  there (b ∷ xs) zero a e = omega arith
  there (b ∷ xs) (suc x) a e = let lt = there xs x a e in omega arith

  cut_view_is : IsCut task cut_view relevant numbers
  cut_view_is = record {
    init = init_is;
    goal = goal_is;
    some = are.some;
    none = λ k e. get_none actions k (let far = none_far numbers k e in let s = are.same in omega arith);
    all = λ x a k. are.all x a (there task.actions x a k.action) k;
  }

  pub cut_down_is : AreRelevant task relevant → (t : TaskView) → t ≡ cut_view → (list : List ℕ) → list ≡ numbers → IsCutDown task (record { relevant = relevant; numbers = list; task = t })
  cut_down_is r t t_is list list_is = record { relevant = r; cut = subst (λ (z : TaskView). IsCut task z relevant list) (sym t_is) (subst (λ z. IsCut task cut_view relevant z) (sym list_is) cut_view_is) }

-- a verdict on the cut task, in the whole task's numbers, is one on the whole task
pub carried : (task : TaskView) (c : CutTask) (bound nodes : ℕ) (kind whole : Kind) (numbers : List ℕ) → IsCutDown task c → IsTrueVerdict c.task bound nodes kind → numbers ≡ c.numbers → whole ≡ renumbered_kind numbers kind →
    IsTrueVerdict task bound nodes whole
carried task c bound nodes kind whole numbers is v same whole_is =
    subst (IsTrueVerdict task bound nodes) (sym (whole_is ∙ ap (λ z. renumbered_kind z kind) same)) (verdict_too task c.relevant is.relevant c.task c.numbers is.cut bound nodes kind v)
