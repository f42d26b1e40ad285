-- The steps of a turn one after another, and what each of them adds.
use Rattle.std.proofs.Common.{◌≡◌, ℕ, zero, suc, ◌+◌, ◌≤◌, Bool, true, false, ◌⊎◌, List, [], ◌∷◌, ◌++◌, length, Some, None, Result, Ok, Err, OnOk, OnErr, refl, sym, ap, ◌∙◌, subst, inl, inr, arith}
use Rattle.std.specs.List.{list_all, slice_get}
use Rattle.std.proofs.lemmas.Bool.{both_ways, and_from, and_parts}
use Rattle.std.proofs.lemmas.List.{take_all}
use Rattle.std.proofs.lemmas.Option.{slice_get_within}
use Rattle.bd_task.specs.TaskView.{TaskView}
use Rattle.bd_tree.specs.declared.node.Node.{Node}
use Rattle.plan_core.specs.Core.{CoreView, opened, applied, accepted, replay, is_due, is_replacement, is_tightening}
use Rattle.plan_core.specs.Law.{IsCore, tree_at}
use Rattle.plan_core.specs.Rebuilt.{rebuilt}
use Rattle.plan_core.specs.declared.offer.Offer.{Offer}
use Rattle.plan_core.specs.declared.offer.Offer.TheVariants.{Rebuild}
use Rattle.plan_core.proofs.AcceptLemmas.{due_more}
use Rattle.plan_core.proofs.LawLemmas.{replay-append}
use Rattle.plan_rebuild.specs.Grown.{Adds}
use Rattle.plan_rebuild.specs.Rebuilds.{IsReasoned, GrowsRightly}
use Rattle.plan_rebuild.proofs.GrowLemmas.{adds_here, grows_here, grows_then, core_same}

none_offer : (x : Offer) → None ≡ Some x → ⊥
none_offer x e = cc

-- an entry of two lists together is one of the first or one of the second
get_split : (xs ys : List Offer) (i : ℕ) (z : Offer) → slice_get (xs ++ ys) i ≡ Some z → (slice_get xs i ≡ Some z) ⊎ ((q : ℕ) × (i ≡ length xs + q) × (slice_get ys q ≡ Some z))
get_split [] ys i z e = inr (i, omega arith, e)
get_split (x ∷ xs) ys zero z e = inl e
get_split (x ∷ xs) ys (suc i) z e = elim (get_split xs ys i z e) [ inl h ↦ inl h | inr h ↦ inr (h.0, omega (arith, h.1), h.2) ]

adds_one : (test : Offer → Bool) (core : CoreView) (offer : Offer) → test offer ≡ true → Adds test core (accepted offer core)
adds_one test core offer e = record {
  grows = record { task = refl; start = refl; stop = refl; added = offer ∷ []; history = refl };
  kind = and_from (test offer) true e refl;
}

pub adds_accepted : (test : Offer → Bool) (core after : CoreView) (offer : Offer) → after ≡ accepted offer core → test offer ≡ true → Adds test core after
adds_accepted test core after offer is e = subst (Adds test core) (sym is) (adds_one test core offer e)

pub adds_same : (test : Offer → Bool) (core after : CoreView) → after ≡ core → Adds test core after
adds_same test core after is = subst (Adds test core) (sym is) (adds_here test core)

pub step_here : (core : CoreView) → GrowsRightly core core
step_here core = record {
  grows = grows_here core;
  rebuilt = λ index order ge e. absurd (omega (arith, ge, slice_get_within core.history index (Rebuild order) e));
}

pub step_then : (a b c : CoreView) → GrowsRightly a b → GrowsRightly b c → GrowsRightly a c
step_then a b c g h = record {
  grows = grows_then a b c g.grows h.grows;
  rebuilt = λ index order ge e. elim (get_split b.history h.grows.added index (Rebuild order) (ap (λ z. slice_get z index) (sym h.grows.history) ∙ e)) [
    | inl old ↦ earlier index order ge old
    | inr new ↦ h.rebuilt index order (omega (arith, new.1)) e
  ];
}
  where
    earlier : (index : ℕ) (order : List (ℕ × ℕ)) → length a.history ≤ index → slice_get b.history index ≡ Some (Rebuild order) → IsReasoned c.task (tree_at c (index + 1))
    earlier index order ge e =
        subst (λ (z : CoreView). IsReasoned z.task z.tree) (sym (core_same b c h.grows (index + 1) (omega (arith, slice_get_within b.history index (Rebuild order) e)))) (g.rebuilt index order ge e)

all_get : (test : Offer → Bool) (xs : List Offer) (q : ℕ) (x : Offer) → list_all test xs ≡ true → slice_get xs q ≡ Some x → test x ≡ true
all_get test [] q x all e = absurd (none_some x e)
  where
    none_some : (x : Offer) → None ≡ Some x → ⊥
    none_some x e = cc
all_get test (y ∷ xs) zero x all e = ap test (same y x (sym e)) ∙ (and_parts (test y) _ all).0
  where
    same : (y x : Offer) → Some x ≡ Some y → x ≡ y
    same y x e = cc
all_get test (y ∷ xs) (suc q) x all e = all_get test xs q x (and_parts (test y) _ all).1 e

-- a step that adds no rebuild
pub step_other : (test : Offer → Bool) (before after : CoreView) → ((order : List (ℕ × ℕ)) → test (Rebuild order) ≡ false) → Adds test before after → GrowsRightly before after
step_other test before after no_rebuild adds = record {
  grows = adds.grows;
  rebuilt = λ index order ge e. elim (get_split before.history adds.grows.added index (Rebuild order) (ap (λ z. slice_get z index) (sym adds.grows.history) ∙ e)) [
    | inl old ↦ absurd (omega (arith, ge, slice_get_within before.history index (Rebuild order) old))
    | inr new ↦ absurd (both_ways (test (Rebuild order)) (no_rebuild order) (all_get test adds.grows.added new.0 (Rebuild order) adds.kind new.2))
  ];
}

pub step_replaces : (before after : CoreView) → Adds is_replacement before after → GrowsRightly before after
step_replaces before after adds = step_other is_replacement before after (λ order. refl) adds

pub step_tightens : (before after : CoreView) → Adds is_tightening before after → GrowsRightly before after
step_tightens before after adds = step_other is_tightening before after (λ order. refl) adds

length_one : (xs : List Offer) (x : Offer) → length (xs ++ x ∷ []) ≡ length xs + 1
length_one [] x = omega arith
length_one (y ∷ xs) x = omega (arith, length_one xs x)

-- the step of a rebuild
pub step_rebuilds : (core after : CoreView) (order : List (ℕ × ℕ)) → IsCore core → after ≡ accepted (Rebuild order) core → IsReasoned core.task (rebuilt core.tree order) → GrowsRightly core after
step_rebuilds core after order is same reasoned = subst (GrowsRightly core) (sym same) record {
  grows = record { task = refl; start = refl; stop = refl; added = Rebuild order ∷ []; history = refl };
  rebuilt = λ index other ge e. subst (λ t. IsReasoned core.task t) (sym (tree_is (index + 1) (omega (arith, ge, length_one core.history (Rebuild order))))) reasoned;
}
  where
    tree_is : (place : ℕ) → length (core.history ++ Rebuild order ∷ []) ≤ place → tree_at (accepted (Rebuild order) core) place ≡ rebuilt core.tree order
    tree_is place le =
        ap (λ h. (replay (opened core.start) h).tree) (take_all place (core.history ++ Rebuild order ∷ []) le)
        ∙ ap (λ s. s.tree) (replay-append (opened core.start) core.history (Rebuild order ∷ []) ∙ ap (applied (Rebuild order)) is.replays)

pub step_same : (core after : CoreView) → after ≡ core → GrowsRightly core after
step_same core after same = subst (GrowsRightly core) (sym same) (step_here core)

-- the same step by the task and the tree that were lent
pub step_rebuilt : (core after : CoreView) (task : TaskView) (tree : Node) (order : List (ℕ × ℕ)) → IsCore core → after ≡ accepted (Rebuild order) core → task ≡ core.task → tree ≡ core.tree → IsReasoned task (rebuilt tree order) → GrowsRightly core after
step_rebuilt core after task tree order is same et en reasoned =
    step_rebuilds core after order is same (subst (λ t. IsReasoned t (rebuilt core.tree order)) et (subst (λ n. IsReasoned task (rebuilt n order)) en reasoned))

-- what was offered was taken, or the core is as before
pub adds_taken : {E : Type 0} (test : Offer → Bool) (core after : CoreView) (offer : Offer) (r : Result (Unit {0}) E) → OnOk r (after ≡ accepted offer core) → OnErr r (after ≡ core) → test offer ≡ true → Adds test core after
adds_taken test core after offer (Ok x) taken same e = adds_accepted test core after offer taken e
adds_taken test core after offer (Err x) taken same e = adds_same test core after same

pub grows_taken : {E : Type 0} (core after : CoreView) (order : List (ℕ × ℕ)) (r : Result (Unit {0}) E) → IsCore core → IsReasoned core.task (rebuilt core.tree order) → OnOk r (after ≡ accepted (Rebuild order) core) → OnErr r (after ≡ core) → GrowsRightly core after
grows_taken core after order (Ok x) is reasoned taken same = step_rebuilds core after order is taken reasoned
grows_taken core after order (Err x) is reasoned taken same = step_same core after same

-- behind a rebuild none is due
pub due_taken : {E : Type 0} (core after : CoreView) (order : List (ℕ × ℕ)) (r : Result (Unit {0}) E) → OnOk r (after ≡ accepted (Rebuild order) core) → OnOk r (is_due after.history ≡ false)
due_taken core after order (Ok x) taken = ap (λ (c : CoreView). is_due c.history) taken ∙ due_more false core.history (Rebuild order)
due_taken core after order (Err x) taken = tt
