-- Actions that run in a state.
use Rattle.std.proofs.Common.{◌≡◌, ◌≤◌, ℕ, true, false, eqb, List, [], ◌∷◌, ◌++◌, length, Some, None, Vec, Global, refl, sym, ap, ◌∙◌, subst, inl, inr, ◌⊎◌, slice_get}
use Rattle.std.proofs.lemmas.Bool.{both_ways, and_parts, or_cases, or_left, or_right, eq-eqb, eqb-true}
use Rattle.std.proofs.lemmas.Option.{slice_get_within}
use Rattle.bd_base.specs.Facts.{has, is_subset, plus}
use Rattle.bd_base.proofs.FactLemmas.{has-plus}
use Rattle.bd_task.specs.TaskView.{TaskView}
use Rattle.bd_task.specs.declared.ground.Action.{Action}
use Rattle.bd_heur.specs.Index.{row_at, IsRowOf, AreRows, AreNeeders, IsRunnable}
use Rattle.bd_heur.specs.declared.index.ActionRow.{ActionRow}
use Rattle.bd_heur.proofs.IndexLemmas.{has_last, has_more}
use Rattle.bd_heur.proofs.SettlingLemmas.{some_is, none_some, past, none_past}

-- a runnable action's row
pub runs_row : (task : TaskView) (rows : List ActionRow) (s : List ℕ) (x : ℕ) (row : ActionRow) → AreRows task (length task.actions) rows → slice_get rows x ≡ Some row → IsRunnable task s x → is_subset row.pre.items s ≡ true
runs_row task rows s x row are g runs =
    let a = are.each x row g in
    ap (λ z. is_subset z s) a.2.pre ∙ ap (λ (z : Action). is_subset z.pre s) (some_is a.0 runs.0 (sym a.1 ∙ runs.1)) ∙ runs.2

pub runs_none : (task : TaskView) (rows : List ActionRow) (s : List ℕ) (x : ℕ) → AreRows task (length task.actions) rows → slice_get rows x ≡ None → IsRunnable task s x → ⊥
runs_none task rows s x are g runs = none_some runs.0 (sym (none_past task.actions x (subst (λ z. z ≤ x) are.len (past rows x g))) ∙ runs.1)

pub push_more : (items new : List ℕ) (a x : ℕ) → new ≡ items ++ a ∷ [] → has items x ≡ true → has new x ≡ true
push_more items new a x is i = ap (λ z. has z x) is ∙ has_more items a x i

pub push_last : (items new : List ℕ) (a x : ℕ) → new ≡ items ++ a ∷ [] → a ≡ x → has new x ≡ true
push_last items new a x is e = subst (λ z. has new z ≡ true) e (ap (λ z. has z a) is ∙ has_last items a)

first_or : (p r : ℕ) (rest : List ℕ) → has (p ∷ rest) r ≡ true → (p ≡ r) ⊎ (has rest r ≡ true)
first_or p r rest i = elim (or_cases (eqb p r) (has rest r) i) [ inl same ↦ inl (eqb-true p r same) | inr later ↦ inr later ]

-- one action of a row done
pub row_step : (task : TaskView) (s row items new front rest : List ℕ) (a : ℕ) → front ≡ a ∷ rest → ((x : ℕ) → has items x ≡ true → has new x ≡ true) → (IsRunnable task s a → has new a ≡ true) →
    ((x : ℕ) → IsRunnable task s x → has row x ≡ true → (has front x ≡ true) ⊎ (has items x ≡ true)) →
    (x : ℕ) → IsRunnable task s x → has row x ≡ true → (has rest x ≡ true) ⊎ (has new x ≡ true)
row_step task s row items new front rest a is kept here all x runs i = elim (all x runs i) [
  | inr old ↦ inr (kept x old)
  | inl j ↦ elim (first_or a x rest (ap (λ z. has z x) (sym is) ∙ j)) [
    | inl e ↦ inr (subst (λ z. has new z ≡ true) e (here (subst (λ z. IsRunnable task s z) (sym e) runs)))
    | inr later ↦ inl later
  ]
]

-- one fact of the state done
pub fact_step : (task : TaskView) (needers rows : List (Vec ℕ Global)) (s items new front rest row : List ℕ) (f : ℕ) → front ≡ f ∷ rest → row ≡ row_at rows f → rows ≡ needers →
    ((x : ℕ) → has items x ≡ true → has new x ≡ true) → ((x : ℕ) → IsRunnable task s x → has row x ≡ true → has new x ≡ true) →
    ((q x : ℕ) → has s q ≡ true → IsRunnable task s x → has (row_at needers q) x ≡ true → (has front q ≡ true) ⊎ (has items x ≡ true)) →
    (q x : ℕ) → has s q ≡ true → IsRunnable task s x → has (row_at needers q) x ≡ true → (has rest q ≡ true) ⊎ (has new x ≡ true)
fact_step task needers rows s items new front rest row f is is_row same kept pushed all q x i runs j = elim (all q x i runs j) [
  | inr old ↦ inr (kept x old)
  | inl k ↦ elim (first_or f q rest (ap (λ z. has z q) (sym is) ∙ k)) [
    | inl e ↦ inr (pushed x runs (ap (λ z. has z x) (is_row ∙ ap (λ z. row_at z f) same) ∙ subst (λ z. has (row_at needers z) x ≡ true) (sym e) j))
    | inr later ↦ inl later
  ]
]

pub all_run : (task : TaskView) (needers : List (Vec ℕ Global)) (free s items rest set : List ℕ) → AreNeeders task (length task.actions) needers free → set ≡ plus [] items → rest ≡ [] →
    ((x : ℕ) → IsRunnable task s x → has free x ≡ true → has items x ≡ true) →
    ((q x : ℕ) → has s q ≡ true → IsRunnable task s x → has (row_at needers q) x ≡ true → (has rest q ≡ true) ⊎ (has items x ≡ true)) →
    (x : ℕ) → IsRunnable task s x → has set x ≡ true
all_run task needers free s items rest set index is_set done of_free each x runs = ap (λ z. has z x) is_set ∙ has-plus [] items x ∙ or_left _ _ (by runs.0.pre refl)
  where
    by : (ps : List ℕ) → runs.0.pre ≡ ps → has items x ≡ true
    by [] e = of_free x runs (index.none x runs.0 (slice_get_within task.actions x runs.0 runs.1) runs.1 e)
    by (p ∷ ps) e = elim (each p x (and_parts (has s p) (is_subset ps s) (sym (ap (λ z. is_subset z s) e) ∙ runs.2)).0 runs
        (index.each x p runs.0 (slice_get_within task.actions x runs.0 runs.1) runs.1 (ap (λ z. has z p) e ∙ or_left _ _ (eq-eqb p p refl)))) [
          | inl left ↦ absurd (both_ways false refl (sym (ap (λ z. has z p) done) ∙ left))
          | inr in_items ↦ in_items
        ]
