-- Verdicts that are kept stay true.
use Rattle.std.proofs.Common.{Result, Ok, Err, IfOk, ◌≡◌, inl, inr, ℕ, ◌<◌, zero, suc, List, [], ◌∷◌, ◌++◌, get_or, length, Option, Some, sym, ap, ◌∙◌, subst, arith}
use Rattle.bd_task.specs.TaskView.{TaskView}
use Rattle.bd_merge.specs.declared.window.Window.{Window}
use Rattle.bd_pieces.specs.Verdict.{IsTrueOf}
use Rattle.bd_pieces.specs.declared.judged.Verdict.{Verdict}
use Rattle.bd_search.specs.declared.verdict.Kind.{Kind}
use Rattle.bd_subtask.specs.declared.parts.SubTask.{SubTask}
use Rattle.bd_subtask.specs.Posing.{Posed}
use Rattle.bd_subtask.specs.Subtask.{subtask_of}
use Rattle.plan_core.specs.Core.{CoreView}
use Rattle.bd_workers.specs.Inner.{AreTrue, AreKept, IsSameOrNone, TellsOf}
use Rattle.bd_workers.specs.Round.{IsVerdictOn}

true_at : (task : TaskView) (nodes : ℕ) (vs : List Verdict) (i : ℕ) (v : Verdict) → i < length vs → v ≡ get_or vs i v → AreTrue task nodes vs → IsTrueOf task v.sub nodes v.kind
true_at task nodes [] i v lt e all = absurd (omega (arith, lt))
true_at task nodes (w ∷ vs) zero v lt e all = subst (λ (z : Verdict). IsTrueOf task z.sub nodes z.kind) (sym e) all.0
true_at task nodes (w ∷ vs) (suc i) v lt e all = true_at task nodes vs i v (omega (arith, lt)) e all.1

-- a verdict that is kept tells of an equal subtask
pub tells_at : (vs kept : List Verdict) (i : ℕ) (v : Verdict) (sub : SubTask) (kind : Kind) → vs ≡ kept → i < length vs → v ≡ get_or vs i v → v.sub ≡ sub → kind ≡ v.kind → TellsOf kept sub (Some kind)
tells_at vs kept i v sub kind here lt e same is = λ task nodes all.
    subst (λ z. IsTrueOf task z nodes kind) same (subst (IsTrueOf task v.sub nodes) (sym is) (true_at task nodes vs i v lt e (subst (AreTrue task nodes) (sym here) all)))

true_more : (task : TaskView) (nodes : ℕ) (vs : List Verdict) (v : Verdict) → AreTrue task nodes vs → IsTrueOf task v.sub nodes v.kind → AreTrue task nodes (vs ++ v ∷ [])
true_more task nodes [] v all one = (one, tt)
true_more task nodes (w ∷ vs) v all one = (all.0, true_more task nodes vs v all.1 one)

true_room : (task : TaskView) (nodes : ℕ) (before after : List Verdict) → IsSameOrNone before after → AreTrue task nodes before → AreTrue task nodes after
true_room task nodes before after (inl same) all = subst (AreTrue task nodes) (sym same) all
true_room task nodes before after (inr none) all = subst (AreTrue task nodes) (sym none) tt

-- where nothing more was kept
pub kept_room : (before : List Verdict) (v : Verdict) (after : List Verdict) → IsSameOrNone before after → AreKept before v after
kept_room before v after room = λ task nodes all one. true_room task nodes before after room all

-- where one more was kept
pub kept_more : (before mid : List Verdict) (v copy : Verdict) (after : List Verdict) → IsSameOrNone before mid → copy ≡ v → after ≡ mid ++ copy ∷ [] → AreKept before v after
kept_more before mid v copy after room same e = λ task nodes all one.
    subst (AreTrue task nodes) (sym (e ∙ ap (λ z. mid ++ z ∷ []) same)) (true_more task nodes mid v (true_room task nodes before mid room all) one)

-- a verdict was kept that is true of the subtask
pub kept_with : (task : TaskView) (nodes : ℕ) (before : List Verdict) (sub : SubTask) (v : Verdict) (after : List Verdict) → AreKept before v after → AreTrue task nodes before → v.sub ≡ sub → IsTrueOf task sub nodes v.kind → AreTrue task nodes after
kept_with task nodes before sub v after kept all same holds = kept task nodes all (subst (λ z. IsTrueOf task z nodes v.kind) (sym same) holds)

posed_as : (core : CoreView) (window : Window) (posing : Posed) (sub : SubTask) → posing ≡ record { task = core.task; root = core.tree } → sub ≡ subtask_of posing.task posing.root window → sub ≡ subtask_of core.task core.tree window
posed_as core window posing sub shows is = is ∙ ap (λ (p : Posed). subtask_of p.task p.root window) shows

-- what was kept of an equal subtask is a verdict on the window
pub verdict_kept : (core : CoreView) (window : Window) (nodes : ℕ) (posing : Posed) (sub : SubTask) (told : Option Kind) (kind : Kind) (kept : List Verdict) →
    posing ≡ record { task = core.task; root = core.tree } → sub ≡ subtask_of posing.task posing.root window → TellsOf kept sub told → told ≡ Some kind → AreTrue core.task nodes kept →
    IsVerdictOn core.task core.tree window nodes (record { sub = sub; kind = kind })
verdict_kept core window nodes posing sub told kind kept shows is tells e all = record {
  sub = posed_as core window posing sub shows is;
  holds = subst (TellsOf kept sub) e tells core.task nodes all;
}

-- so is what a search says
pub verdict_searched : {E : Type 0} (core : CoreView) (window : Window) (nodes : ℕ) (posing : Posed) (sub : SubTask) (task : TaskView) (r : Result Verdict E) →
    posing ≡ record { task = core.task; root = core.tree } → task ≡ core.task → sub ≡ subtask_of posing.task posing.root window → IfOk r (λ v. v.sub ≡ sub) → IfOk r (λ v. IsTrueOf task sub nodes v.kind) →
    IfOk r (λ v. IsVerdictOn core.task core.tree window nodes v)
verdict_searched core window nodes posing sub task (Err e) shows same is kept holds = tt
verdict_searched core window nodes posing sub task (Ok v) shows same is kept holds = record {
  sub = kept ∙ posed_as core window posing sub shows is;
  holds = subst (λ z. IsTrueOf z v.sub nodes v.kind) same (subst (λ z. IsTrueOf task z nodes v.kind) (sym kept) holds);
}
