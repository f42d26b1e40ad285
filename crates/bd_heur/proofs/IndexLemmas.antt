-- Rows of actions.
use Rattle.std.proofs.Common.{◌≡◌, ℕ, zero, suc, ◌+◌, ◌<◌, true, false, eqb, List, [], ◌∷◌, ◌++◌, length, length-append, set, Some, Vec, Global, refl, sym, ap, ◌∙◌, subst, inl, inr, ◌⊎◌, arith, slice_get}
use Rattle.std.proofs.lemmas.Bool.{both_ways, or_cases, or_left, or_right, eq-eqb, eqb-true, cases_eq}
use Rattle.bd_base.specs.Facts.{has}
use Rattle.bd_task.specs.TaskView.{TaskView, IsAction}
use Rattle.bd_task.specs.declared.ground.Action.{Action}
use Rattle.bd_heur.specs.Index.{row_at, IsRowOf, AreRows, AreNeeders}
use Rattle.bd_heur.specs.declared.index.ActionRow.{ActionRow}
use Rattle.bd_heur.proofs.SettlingLemmas.{some_is, none_some, below_at}

row_set_same : (rows : List (Vec ℕ Global)) (i : ℕ) (row : Vec ℕ Global) → i < length rows → row_at (set rows i row) i ≡ row.items
row_set_same [] i row lt = absurd (omega arith)
row_set_same (y ∷ rows) zero row lt = refl
row_set_same (y ∷ rows) (suc i) row lt = row_set_same rows i row (omega arith)

row_set_other : (rows : List (Vec ℕ Global)) (i q : ℕ) (row : Vec ℕ Global) → (i ≡ q → ⊥) → row_at (set rows i row) q ≡ row_at rows q
row_set_other [] i q row ne = refl
row_set_other (y ∷ rows) zero zero row ne = absurd (ne refl)
row_set_other (y ∷ rows) zero (suc q) row ne = refl
row_set_other (y ∷ rows) (suc i) zero row ne = refl
row_set_other (y ∷ rows) (suc i) (suc q) row ne = row_set_other rows i q row (λ e. ne (ap suc e))

row_is : (rows : List (Vec ℕ Global)) (i : ℕ) (row : Vec ℕ Global) → slice_get rows i ≡ Some row → row_at rows i ≡ row.items
row_is [] i row g = absurd (none_some row g)
row_is (y ∷ rows) zero row g = ap (λ (z : Vec ℕ Global). z.items) (some_is y row g)
row_is (y ∷ rows) (suc i) row g = row_is rows i row g

pub has_last : (xs : List ℕ) (a : ℕ) → has (xs ++ a ∷ []) a ≡ true
has_last [] a = or_left _ _ (eq-eqb a a refl)
has_last (x ∷ xs) a = or_right _ _ (has_last xs a)

pub has_more : (xs : List ℕ) (a x : ℕ) → has xs x ≡ true → has (xs ++ a ∷ []) x ≡ true
has_more [] a x i = absurd (both_ways false refl i)
has_more (y ∷ xs) a x i = elim (or_cases (eqb y x) (has xs x) i) [ inl same ↦ or_left _ _ same | inr later ↦ or_right _ _ (has_more xs a x later) ]

pub put_kept : (rows : List (Vec ℕ Global)) (i a : ℕ) (old new : Vec ℕ Global) → i < length rows → slice_get rows i ≡ Some old → new.items ≡ old.items ++ a ∷ [] → (q x : ℕ) → has (row_at rows q) x ≡ true →
    has (row_at (set rows i new) q) x ≡ true
put_kept rows i a old new lt g e q x h = elim (cases_eq i q) [
  | inl same ↦ subst (λ z. has (row_at (set rows i new) z) x ≡ true) same
      (ap (λ z. has z x) (row_set_same rows i new lt ∙ e) ∙ has_more old.items a x (ap (λ z. has z x) (sym (row_is rows i old g)) ∙ subst (λ z. has (row_at rows z) x ≡ true) (sym same) h))
  | inr ne ↦ ap (λ z. has z x) (row_set_other rows i q new ne) ∙ h
]

pub put_there : (rows : List (Vec ℕ Global)) (i f a : ℕ) (old new : Vec ℕ Global) → i < length rows → i ≡ f → new.items ≡ old.items ++ a ∷ [] → has (row_at (set rows i new) f) a ≡ true
put_there rows i f a old new lt same e = subst (λ z. has (row_at (set rows i new) z) a ≡ true) same (ap (λ z. has z a) (row_set_same rows i new lt ∙ e) ∙ has_last old.items a)

-- the rows of the facts of a set, one more fact done
pub rows_more : (facts items rest : List ℕ) (f a n : ℕ) (rows new : List (Vec ℕ Global)) → items ≡ f ∷ rest → length rows ≡ n →
    ((q : ℕ) → q < n → has facts q ≡ true → (has items q ≡ true) ⊎ (has (row_at rows q) a ≡ true)) →
    ((q x : ℕ) → has (row_at rows q) x ≡ true → has (row_at new q) x ≡ true) → (f < length rows → has (row_at new f) a ≡ true) →
    (q : ℕ) → q < n → has facts q ≡ true → (has rest q ≡ true) ⊎ (has (row_at new q) a ≡ true)
rows_more facts items rest f a n rows new is len put kept here q lt i = elim (put q lt i) [
  | inl j ↦ elim (or_cases (eqb f q) (has rest q) (ap (λ z. has z q) (sym is) ∙ j)) [
    | inl same ↦ inr (subst (λ z. has (row_at new z) a ≡ true) (eqb-true f q same) (here (subst (λ z. z < length rows) (sym (eqb-true f q same)) (subst (λ z. q < z) (sym len) lt))))
    | inr later ↦ inl later
  ]
  | inr old ↦ inr (kept q a old)
]

pub rows_done : (facts items : List ℕ) (a n : ℕ) (new : List (Vec ℕ Global)) → items ≡ [] → ((q : ℕ) → q < n → has facts q ≡ true → (has items q ≡ true) ⊎ (has (row_at new q) a ≡ true)) →
    (q : ℕ) → q < n → has facts q ≡ true → has (row_at new q) a ≡ true
rows_done facts items a n new is put q lt i = elim (put q lt i) [ inl j ↦ absurd (both_ways false refl (sym (ap (λ z. has z q) is) ∙ j)) | inr h ↦ h ]

module _ (task : TaskView) (a : ℕ) (action : Action) (at : slice_get task.actions a ≡ Some action) (fits : IsAction (length task.facts) action) where
  abbrev Kept : List (Vec ℕ Global) → List (Vec ℕ Global) → Type 0
  Kept old new = (q x : ℕ) → has (row_at old q) x ≡ true → has (row_at new q) x ≡ true

  abbrev Put : List ℕ → List (Vec ℕ Global) → List (Vec ℕ Global) → Type 0
  Put facts old new = (q : ℕ) → q < length old → has facts q ≡ true → has (row_at new q) a ≡ true

  i_at : (x : ℕ) (b : Action) → x ≡ a → slice_get task.actions x ≡ Some b → action ≡ b
  i_at x b e g = some_is action b (sym at ∙ ap (slice_get task.actions) (sym e) ∙ g)

  pub needers_more : (needers new : List (Vec ℕ Global)) (free free2 : List ℕ) → AreNeeders task a needers free →
      length new ≡ length needers → Kept needers new → Put action.pre needers new →
      ((x : ℕ) → has free x ≡ true → has free2 x ≡ true) → (action.pre ≡ [] → has free2 a ≡ true) → AreNeeders task (a + 1) new free2
  needers_more needers new free free2 is len kept put more last = record {
    len = len ∙ is.len;
    each = λ x q b lt g i. elim (cases_eq x a) [
      | inl e ↦ subst (λ z. has (row_at new q) z ≡ true) (sym e) (let j = i_at x b e g in put q (subst (λ z. q < z) (sym is.len) (below_at (length task.facts) action.pre q fits.pre (ap (λ (z : Action). has z.pre q) j ∙ i))) (ap (λ (z : Action). has z.pre q) j ∙ i))
      | inr ne ↦ kept q x (is.each x q b (omega (arith, ne)) g i)
    ];
    none = λ x b lt g none. elim (cases_eq x a) [
      | inl e ↦ subst (λ z. has free2 z ≡ true) (sym e) (last (ap (λ (z : Action). z.pre) (i_at x b e g) ∙ none))
      | inr ne ↦ more x (is.none x b (omega (arith, ne)) g none)
    ];
  }

  pub rows_of_more : (rows new : List ActionRow) (row : ActionRow) → AreRows task a rows → new ≡ rows ++ row ∷ [] → IsRowOf action row → AreRows task (a + 1) new
  rows_of_more rows new row is more is_row = subst (λ z. AreRows task (a + 1) z) (sym more) (record {
    len = length-append rows (row ∷ []) ∙ ap (λ z. z + 1) is.len;
    each = λ x r g. elim (last_or rows row x r g) [
      | inl old ↦ is.each x r old
      | inr new ↦ (action, ap (slice_get task.actions) (new.0 ∙ is.len) ∙ at, subst (λ z. IsRowOf action z) new.1 is_row)
    ];
  })
    where
      last_or : (rows : List ActionRow) (row : ActionRow) (x : ℕ) (r : ActionRow) → slice_get (rows ++ row ∷ []) x ≡ Some r → (slice_get rows x ≡ Some r) ⊎ ((x ≡ length rows) × (row ≡ r))
      last_or [] row zero r g = inr (refl, some_is row r g)
      last_or [] row (suc x) r g = absurd (none_some r g)
      last_or (y ∷ rows) row zero r g = inl g
      last_or (y ∷ rows) row (suc x) r g = elim (last_or rows row x r g) [ inl old ↦ inl old | inr new ↦ inr (ap suc new.0, new.1) ]
