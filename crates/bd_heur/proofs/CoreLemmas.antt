-- The core of a state decides what can run and what facts cost.
use Rattle.std.proofs.Common.{◌≡◌, ℕ, zero, suc, Bool, true, false, cond, not, ◌&&◌, ◌||◌, List, [], ◌∷◌, length, Option, Some, None, refl, sym, ap, ◌∙◌, subst, inl, inr, ◌⊎◌, arith, slice_get}
use Rattle.std.proofs.lemmas.Bool.{or_left, or_right, eq-eqb}
use Rattle.bd_base.specs.Facts.{has, is_subset, minus}
use Rattle.bd_base.proofs.FactLemmas.{has-plus, has-minus}
use Rattle.bd_task.specs.TaskView.{TaskView, IsTask}
use Rattle.bd_task.specs.Run.{after}
use Rattle.bd_task.specs.declared.ground.Action.{Action}
use Rattle.bd_heur.specs.declared.join.Join.{Join}
use Rattle.bd_heur.specs.Relaxed.{lesser, joined, value_of_all, after_cost, value_by, least_by, relaxed_value, IsWithin}
use Rattle.bd_heur.specs.Core.{AreCore, AgreeOn, column, IsDecidedByCore}
use Rattle.bd_heur.proofs.OrderLemmas.{within_le, action_le, In, here, there, IsBy, least_cases, least_each}
use Rattle.bd_heur.proofs.RoundLemmas.{v, v_closed, v_least}
use Rattle.bd_heur.proofs.OrderLemmas.{same_values}

subset_agrees : (ps s t : List ℕ) → ((q : ℕ) → has ps q ≡ true → has s q ≡ has t q) → is_subset ps s ≡ is_subset ps t
subset_agrees [] s t each = refl
subset_agrees (p ∷ ps) s t each = rw (each p (or_left _ _ (eq-eqb p p refl)), subset_agrees ps s t (λ q i. each q (or_right _ _ i)))

after_agrees : (core : List ℕ) (a : Action) (s t : List ℕ) → AgreeOn core s t → AgreeOn core (after a s) (after a t)
after_agrees core a s t agree q i =
    has-plus (minus s a.del) a.add q ∙ ap (λ b. has a.add q || b) (has-minus s a.del q ∙ ap (λ b. not (has a.del q) && b) (agree q i) ∙ sym (has-minus t a.del q)) ∙ sym (has-plus (minus t a.del) a.add q)

-- values that agree on what actions read
module _ (join : Join) (u w : ℕ → Option ℕ) where
  all_same : (a : Option ℕ) (ps : List ℕ) → ((q : ℕ) → has ps q ≡ true → u q ≡ w q) → value_of_all join u a ps ≡ value_of_all join w a ps
  all_same a [] each = refl
  all_same a (p ∷ ps) each = rw (each p (or_left _ _ (eq-eqb p p refl))) (all_same (joined join a (w p)) ps (λ q i. each q (or_right _ _ i)))

  least_same : (actions : List Action) → ((a : Action) (q : ℕ) → In a actions → has a.pre q ≡ true → u q ≡ w q) → (p : ℕ) (least : Option ℕ) → least_by join u p least actions ≡ least_by join w p least actions
  least_same [] each p least = refl
  least_same (a ∷ rest) each p least =
      rw (ap (after_cost a.cost) (all_same (Some 0) a.pre (λ q i. each a q here i))) (least_same rest (λ b q i j. each b q (there i) j) p (cond (has a.add p) (lesser least (value_by join w a)) least))

place_of : (a : Action) (actions : List Action) → In a actions → (x : ℕ) × (slice_get actions x ≡ Some a)
place_of a [] i = elim i [ ]
place_of a (b ∷ rest) here = (zero, refl)
place_of a (b ∷ rest) (there i) = let p = place_of a rest i in (suc p.0, p.1)

module _ (task : TaskView) (core s t : List ℕ) (are : AreCore task core) (agree : AgreeOn core s t) where
  values_agree : (join : Join) (k p : ℕ) → has core p ≡ true → relaxed_value join task s k p ≡ relaxed_value join task t k p
  values_agree join zero p i = ap (λ b. cond b (Some 0) None) (agree p i)
  values_agree join (suc k) p i =
      rw (values_agree join k p i)
      (least_same join (relaxed_value join task s k) (relaxed_value join task t k) task.actions
      (λ a q j h. let x = place_of a task.actions j in values_agree join k q (are x.0 a q x.1 h)) p (relaxed_value join task t k p))

  pub decided : IsDecidedByCore task core s t
  decided = record {
    runs = λ x a e. subset_agrees a.pre s t (λ q i. agree q (are x a q e i));
    leads = λ a. after_agrees core a s t agree;
    values = values_agree;
    columns = λ join p.
        least_same join (relaxed_value join task s (length task.facts)) (relaxed_value join task t (length task.facts)) task.actions
        (λ a q j h. let x = place_of a task.actions j in values_agree join (length task.facts) q (are x.0 a q x.1 h)) p None;
  }

-- the last values are no higher than those of any round, and so a false fact has its column's value
le_least : (join : Join) (u : ℕ → Option ℕ) (p : ℕ) (x least : Option ℕ) (actions : List Action) → IsWithin 0 x least → ((a : Action) → In a actions → has a.add p ≡ true → IsWithin 0 x (value_by join u a)) → IsWithin 0 x (least_by join u p least actions)
le_least join u p x least [] h each = h
le_least join u p x least (a ∷ rest) h each = le_least join u p x (cond (has a.add p) (lesser least (value_by join u a)) least) rest (by (has a.add p) refl) (λ b i. each b (there i))
  where
    le_lesser : (a b : Option ℕ) → IsWithin 0 x a → IsWithin 0 x b → IsWithin 0 x (lesser a b)
    le_lesser None b h k = k
    le_lesser (Some a) None h k = h
    le_lesser (Some a) (Some b) h k = smaller x a b h k
      where
        smaller : (x : Option ℕ) (a b : ℕ) → IsWithin 0 x (Some a) → IsWithin 0 x (Some b) → IsWithin 0 x (lesser (Some a) (Some b))
        smaller None a b h k = h
        smaller (Some x) a b h k = omega arith

    by : (b : Bool) → has a.add p ≡ b → IsWithin 0 x (cond b (lesser least (value_by join u a)) least)
    by false e = h
    by true e = le_lesser least (value_by join u a) h (each a here e)

module _ (join : Join) (task : TaskView) (is : IsTask task) (s : List ℕ) where
  last_least : (k q : ℕ) → IsWithin 0 (v join task s (length task.facts) q) (v join task s k q)
  last_least zero q = v_least join task s is (length task.facts) q
  last_least (suc k) q = from (λ r. last_least k r) (least_cases join (v join task s k) q (v join task s k q) task.actions)
    where
      from : ((r : ℕ) → IsWithin 0 (v join task s (length task.facts) r) (v join task s k r)) →
          (least_by join (v join task s k) q (v join task s k q) task.actions ≡ v join task s k q) ⊎ IsBy join (v join task s k) q task.actions (least_by join (v join task s k) q (v join task s k q) task.actions) →
          IsWithin 0 (v join task s (length task.facts) q) (v join task s (suc k) q)
      from each (inl same) = subst (λ z. IsWithin 0 (v join task s (length task.facts) q) z) (sym same) (each q)
      from each (inr by) = subst (λ z. IsWithin 0 (v join task s (length task.facts) q) z) (sym by.3)
          (within_le 0 _ (value_by join (v join task s (length task.facts)) by.0) _ (v_closed join task s is q by.0 by.1 by.2) (action_le join (v join task s (length task.facts)) (v join task s k) by.0 (λ r _. each r)))

  column_least : (p : ℕ) → has s p ≡ false → (k : ℕ) → IsWithin 0 (column join task s p) (v join task s k p)
  column_least p out zero = rw out tt
  column_least p out (suc k) = from (column_least p out k) (least_cases join (v join task s k) p (v join task s k p) task.actions)
    where
      from : IsWithin 0 (column join task s p) (v join task s k p) →
          (least_by join (v join task s k) p (v join task s k p) task.actions ≡ v join task s k p) ⊎ IsBy join (v join task s k) p task.actions (least_by join (v join task s k) p (v join task s k p) task.actions) →
          IsWithin 0 (column join task s p) (v join task s (suc k) p)
      from before (inl same) = subst (λ z. IsWithin 0 (column join task s p) z) (sym same) before
      from before (inr by) = subst (λ z. IsWithin 0 (column join task s p) z) (sym by.3)
          (within_le 0 _ (value_by join (v join task s (length task.facts)) by.0) _ (least_each join (v join task s (length task.facts)) p None task.actions by.0 by.1 by.2)
          (action_le join (v join task s (length task.facts)) (v join task s k) by.0 (λ r _. last_least k r)))

  pub has_column : (p : ℕ) → relaxed_value join task s (length task.facts) p ≡ cond (has s p) (Some 0) (column join task s p)
  has_column p = by (has s p) refl
    where
      zero_is : (a : Option ℕ) → IsWithin 0 a (Some 0) → a ≡ Some 0
      zero_is None h = absurd h
      zero_is (Some a) h = ap Some (omega arith)

      by : (b : Bool) → has s p ≡ b → v join task s (length task.facts) p ≡ cond b (Some 0) (column join task s p)
      by true e = zero_is (v join task s (length task.facts) p) (subst (λ z. IsWithin 0 (v join task s (length task.facts) p) z) (ap (λ b. cond b (Some 0) None) e) (v_least join task s is (length task.facts) p))
      by false e = same_values (v join task s (length task.facts) p) (column join task s p)
          (le_least join (v join task s (length task.facts)) p (v join task s (length task.facts) p) None task.actions tt (λ a i adds. v_closed join task s is p a i adds))
          (column_least p e (length task.facts))
