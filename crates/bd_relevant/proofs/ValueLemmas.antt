-- The relaxed values of a cut task are those of the whole task.
use Rattle.std.proofs.Common.{◌≡◌, ℕ, zero, suc, min, Bool, true, false, cond, not, ◌&&◌, eqb, List, [], ◌∷◌, filter, length, Option, Some, None, refl, sym, ap, ◌∙◌, subst, inl, inr, arith, slice_get}
use Rattle.std.specs.List.{list_any}
use Rattle.std.proofs.lemmas.Bool.{both_ways, and_from, and_parts, or_cases, or_left, or_right, eq-eqb, eqb-true}
use Rattle.bd_base.specs.Facts.{has, is_subset, minus}
use Rattle.bd_base.proofs.FactLemmas.{has-plus, has-minus}
use Rattle.bd_task.specs.TaskView.{TaskView}
use Rattle.bd_task.specs.declared.ground.Action.{Action}
use Rattle.bd_states.proofs.EntryLemmas.{some_is, none_some}
use Rattle.bd_states.proofs.SetLemmas.{subset_has, subset_from, both_same}
use Rattle.bd_heur.specs.Relaxed.{lesser, joined, value_of_all, after_cost, value_by, least_by, relaxed_value, IsWithin}
use Rattle.bd_heur.specs.declared.join.Join.{Join}
use Rattle.bd_heur.specs.declared.join.Join.TheVariants.{Greatest, Sum}
use Rattle.bd_heur.proofs.OrderLemmas.{In, here, there, least_cases, least_start, least_each, same_values}
use Rattle.bd_cut.specs.Cut.{cut_set, cut_action, IsKept, AreRelevant, IsCut}
use Rattle.bd_relevant.specs.Values.{HasTheRest, KeepsTheRest, KeepsValues}
use Rattle.bd_relevant.proofs.SetLemmas.{has-filter}

-- joining 0 changes nothing
abbrev IsStill : Join → Option ℕ → Type 0
IsStill join a = joined join a (Some 0) ≡ a

still_start : (join : Join) → IsStill join (Some 0)
still_start Greatest = refl
still_start Sum = ap Some (omega arith)

still_more : (join : Join) (a b : Option ℕ) → IsStill join (joined join a b)
still_more join None b = refl
still_more join (Some a) None = refl
still_more Greatest (Some a) (Some b) = ap Some (omega arith)
still_more Sum (Some a) (Some b) = ap Some (omega arith)

-- a list with the facts left out that cost nothing
all_cut : (join : Join) (relevant : List ℕ) (u w : ℕ → Option ℕ) (acc : Option ℕ) (ps : List ℕ) → IsStill join acc → ((q : ℕ) → has ps q ≡ true → has relevant q ≡ true → u q ≡ w q) →
    ((q : ℕ) → has ps q ≡ true → has relevant q ≡ false → w q ≡ Some 0) → value_of_all join u acc (filter (has relevant) ps) ≡ value_of_all join w acc ps
all_cut join relevant u w acc [] still same none = refl
all_cut join relevant u w acc (p ∷ ps) still same none = by (has relevant p) refl (λ z s. all_cut join relevant u w z ps s (λ q i. same q (or_right _ _ i)) (λ q i. none q (or_right _ _ i)))
  where
    own : has (p ∷ ps) p ≡ true
    own = or_left _ _ (eq-eqb p p refl)

    by : (b : Bool) → has relevant p ≡ b → ((z : Option ℕ) → IsStill join z → value_of_all join u z (filter (has relevant) ps) ≡ value_of_all join w z ps) →
        value_of_all join u acc (cond b (p ∷ filter (has relevant) ps) (filter (has relevant) ps)) ≡ value_of_all join w (joined join acc (w p)) ps
    by true e later = ap (λ z. value_of_all join u (joined join acc z) (filter (has relevant) ps)) (same p own e) ∙ later (joined join acc (w p)) (still_more join acc (w p))
    by false e later = later acc still ∙ ap (λ z. value_of_all join w z ps) (sym still ∙ ap (joined join acc) (sym (none p own e)))

-- a true fact costs nothing
least_zero : (join : Join) (v : ℕ → Option ℕ) (p : ℕ) (actions : List Action) → least_by join v p (Some 0) actions ≡ Some 0
least_zero join v p [] = refl
least_zero join v p (a ∷ rest) = by (has a.add p) (value_by join v a) (least_zero join v p rest)
  where
    by : (b : Bool) (x : Option ℕ) → least_by join v p (Some 0) rest ≡ Some 0 → least_by join v p (cond b (lesser (Some 0) x) (Some 0)) rest ≡ Some 0
    by false x h = h
    by true None h = h
    by true (Some x) h = ap (λ z. least_by join v p (Some z) rest) (smallest x) ∙ h
      where
        smallest : (x : ℕ) → min 0 x ≡ 0
        smallest x = omega arith

true_costs_nothing : (join : Join) (task : TaskView) (s : List ℕ) (k q : ℕ) → has s q ≡ true → relaxed_value join task s k q ≡ Some 0
true_costs_nothing join task s zero q i = rw i refl
true_costs_nothing join task s (suc k) q i = ap (λ z. least_by join (relaxed_value join task s k) q z task.actions) (true_costs_nothing join task s k q i) ∙ least_zero join (relaxed_value join task s k) q task.actions

place_of : (a : Action) (actions : List Action) → In a actions → (x : ℕ) × (slice_get actions x ≡ Some a)
place_of a [] i = elim i [ ]
place_of a (b ∷ rest) here = (zero, refl)
place_of a (b ∷ rest) (there i) = let p = place_of a rest i in (suc p.0, p.1)

in_at : (a : Action) (actions : List Action) (x : ℕ) → slice_get actions x ≡ Some a → In a actions
in_at a [] x e = absurd (none_some a e)
in_at a (b ∷ rest) zero e = subst (λ z. In z (b ∷ rest)) (some_is b a e) here
in_at a (b ∷ rest) (suc x) e = there (in_at a rest x e)

adds_relevant : (relevant add : List ℕ) (p : ℕ) → has add p ≡ true → has relevant p ≡ true → list_any (has relevant) add ≡ true
adds_relevant relevant [] p i r = absurd (both_ways false refl i)
adds_relevant relevant (x ∷ add) p i r = elim (or_cases (eqb x p) (has add p) i) [
  | inl same ↦ or_left _ _ (subst (λ z. has relevant z ≡ true) (sym (eqb-true x p same)) r)
  | inr later ↦ or_right _ _ (adds_relevant relevant add p later r)
]

module _ (task cut : TaskView) (relevant numbers s : List ℕ) (is : IsCut task cut relevant numbers) (rest : HasTheRest task relevant s) where
  value_same : (join : Join) (u w : ℕ → Option ℕ) → ((q : ℕ) → has relevant q ≡ true → u q ≡ w q) → ((q : ℕ) → has s q ≡ true → w q ≡ Some 0) → (x : ℕ) (a : Action) → IsKept task relevant x a →
      value_by join u (cut_action relevant a) ≡ value_by join w a
  value_same join u w same zeros x a kept =
      ap (after_cost a.cost) (all_cut join relevant u w (Some 0) a.pre (still_start join) (λ q i r. same q r) (λ q i out. zeros q (rest q (inr (x, a, kept, i)) out)))

  -- each action of the cut task is a kept one
  kept_of : (k : ℕ) (c : Action) → slice_get cut.actions k ≡ Some c → (x : ℕ) × (a : Action) × IsKept task relevant x a × (c ≡ cut_action relevant a)
  kept_of k c e = by (slice_get numbers k) refl
    where
      by : (o : Option ℕ) → slice_get numbers k ≡ o → (x : ℕ) × (a : Action) × IsKept task relevant x a × (c ≡ cut_action relevant a)
      by None n = absurd (none_some c (sym (is.none k n) ∙ e))
      by (Some x) n = let f = is.some k x n in (x, f.0, f.1, some_is c (cut_action relevant f.0) (sym e ∙ f.2))

  -- each kept action stands in the cut task
  cut_of : (x : ℕ) (a : Action) → IsKept task relevant x a → In (cut_action relevant a) cut.actions
  cut_of x a kept =
      let at = is.all x a kept in
      let f = is.some at.0 x at.1 in
      in_at (cut_action relevant a) cut.actions at.0 (f.2 ∙ ap (λ z. Some (cut_action relevant z)) (some_is f.0 a (sym f.1.action ∙ kept.action)))

  module _ (join : Join) (u w : ℕ → Option ℕ) (same : (q : ℕ) → has relevant q ≡ true → u q ≡ w q) (zeros : (q : ℕ) → has s q ≡ true → w q ≡ Some 0) (p : ℕ) (r : has relevant p ≡ true) (least : Option ℕ) where
    abbrev cut_least : Option ℕ
    cut_least = least_by join u p least cut.actions

    abbrev whole_least : Option ℕ
    whole_least = least_by join w p least task.actions

    below : IsWithin 0 cut_least whole_least
    below = elim (least_cases join w p least task.actions) [
      | inl e ↦ subst (IsWithin 0 cut_least) (sym e) (least_start join u p least cut.actions)
      | inr by ↦ subst (IsWithin 0 cut_least) (sym by.3) (from by.0 by.1 by.2)
    ]
      where
        from : (a : Action) → In a task.actions → has a.add p ≡ true → IsWithin 0 cut_least (value_by join w a)
        from a i adds =
            let x = place_of a task.actions i in
            let kept : IsKept task relevant x.0 a = record { action = x.1; adds = adds_relevant relevant a.add p adds r } in
            subst (IsWithin 0 cut_least) (value_same join u w same zeros x.0 a kept)
            (least_each join u p least cut.actions (cut_action relevant a) (cut_of x.0 a kept) (has-filter (has relevant) a.add p ∙ and_from _ _ r adds))

    above : IsWithin 0 whole_least cut_least
    above = elim (least_cases join u p least cut.actions) [
      | inl e ↦ subst (IsWithin 0 whole_least) (sym e) (least_start join w p least task.actions)
      | inr by ↦ subst (IsWithin 0 whole_least) (sym by.3) (from by.0 by.1 by.2)
    ]
      where
        from : (c : Action) → In c cut.actions → has c.add p ≡ true → IsWithin 0 whole_least (value_by join u c)
        from c i adds =
            let at = place_of c cut.actions i in
            let f = kept_of at.0 c at.1 in
            subst (IsWithin 0 whole_least) (sym (ap (value_by join u) f.3 ∙ value_same join u w same zeros f.0 f.1 f.2))
            (least_each join w p least task.actions f.1 (in_at f.1 task.actions f.0 f.2.action) (and_parts (has relevant p) (has f.1.add p) (sym (has-filter (has relevant) f.1.add p) ∙ ap (λ (z : Action). has z.add p) (sym f.3) ∙ adds)).1)

    least_is : cut_least ≡ whole_least
    least_is = same_values cut_least whole_least below above

  values_same : (join : Join) (k p : ℕ) → has relevant p ≡ true → relaxed_value join cut (cut_set relevant s) k p ≡ relaxed_value join task s k p
  values_same join zero p r = ap (λ b. cond b (Some 0) None) (has-filter (has relevant) s p ∙ ap (λ b. b && has s p) r)
  values_same join (suc k) p r =
      ap (λ z. least_by join (relaxed_value join cut (cut_set relevant s) k) p z cut.actions) (values_same join k p r)
      ∙ least_is join (relaxed_value join cut (cut_set relevant s) k) (relaxed_value join task s k) (λ q i. values_same join k q i) (λ q i. true_costs_nothing join task s k q i) p r (relaxed_value join task s k p)

  goal_same : (join : Join) (n : ℕ) → value_of_all join (relaxed_value join cut (cut_set relevant s) n) (Some 0) cut.goal ≡ value_of_all join (relaxed_value join task s n) (Some 0) task.goal
  goal_same join n =
      ap (value_of_all join (relaxed_value join cut (cut_set relevant s) n) (Some 0)) is.goal
      ∙ all_cut join relevant (relaxed_value join cut (cut_set relevant s) n) (relaxed_value join task s n) (Some 0) task.goal (still_start join) (λ q i r. values_same join n q r)
      (λ q i out. true_costs_nothing join task s n q (rest q (inl i) out))

  runs_same : (x : ℕ) (a : Action) → IsKept task relevant x a → is_subset (cut_set relevant a.pre) (cut_set relevant s) ≡ is_subset a.pre s
  runs_same x a kept =
      both_same (is_subset (cut_set relevant a.pre) (cut_set relevant s)) (is_subset a.pre s)
      (λ h. subset_from a.pre s (λ q i. by q i (has relevant q) refl h))
      (λ h. subset_from (cut_set relevant a.pre) (cut_set relevant s) (λ q i.
      let parts = and_parts (has relevant q) (has a.pre q) (sym (has-filter (has relevant) a.pre q) ∙ i) in
      has-filter (has relevant) s q ∙ and_from _ _ parts.0 (subset_has a.pre s h q parts.1)))
    where
      by : (q : ℕ) → has a.pre q ≡ true → (b : Bool) → has relevant q ≡ b → is_subset (cut_set relevant a.pre) (cut_set relevant s) ≡ true → has s q ≡ true
      by q i true e h = (and_parts (has relevant q) (has s q) (sym (has-filter (has relevant) s q) ∙ subset_has (cut_set relevant a.pre) (cut_set relevant s) h q (has-filter (has relevant) a.pre q ∙ and_from _ _ e i))).1
      by q i false e h = rest q (inr (x, a, kept, i)) e

  pub keeps_values : KeepsValues task cut relevant numbers s
  keeps_values = record {
    runs = λ k x a n kept. runs_same x a kept;
    facts = values_same;
    goal = λ join len. ap (λ n. value_of_all join (relaxed_value join cut (cut_set relevant s) n) (Some 0) cut.goal) len ∙ goal_same join (length task.facts);
  }

pub keeps_the_rest : (task : TaskView) (relevant : List ℕ) → AreRelevant task relevant → KeepsTheRest task relevant
keeps_the_rest task relevant are = record {
  start = λ q u out. Rattle.std.proofs.lemmas.Bool.true_from_ne_false (has task.init q) (λ e. both_ways (has relevant q) out (are.lacking q u e));
  leads = λ x a s kept h q u out.
      has-plus (minus s a.del) a.add q
      ∙ or_right _ _ (has-minus s a.del q ∙ and_from _ _ (spared (has a.del q) (λ e. both_ways (has relevant q) out (are.deleted x a q kept e u))) (h q u out));
}
  where
    spared : (d : Bool) → (d ≡ true → ⊥) → not d ≡ true
    spared true h = absurd (h refl)
    spared false h = refl
