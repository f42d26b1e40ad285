-- Lines that are put one after another.
use Rattle.std.proofs.Common.{◌≡◌, ℕ, suc, zero, ◌+◌, ◌<◌, List, [], ◌∷◌, ◌++◌, length, take, drop, get_or, Result, Ok, Err, OnErr, refl, sym, ap, subst, ◌∙◌, append_assoc, arith}
use Rattle.std.specs.Prelude.{slice_get}
use Rattle.std.specs.List.{AllByRecursion}
use Rattle.std.proofs.lemmas.List.{append-nil}
use Rattle.bd_task.specs.TaskView.{TaskView}
use Rattle.plan_text.specs.Printed.{name_by, shown, plan_lines}

pub on_err : {T E : Type 0} (r : Result T E) (P : Type 0) → P → OnErr r P
on_err (Ok x) P p = tt
on_err (Err x) P p = p

abbrev pub line_of : TaskView → ℕ → List ℕ
line_of task a = shown (name_by (slice_get task.actions a))

pub lines_more : (task : TaskView) (list : List ℕ) (i a : ℕ) → i < length list → a ≡ get_or list i a → plan_lines task (take i list) ++ line_of task a ≡ plan_lines task (take (i + 1) list)
lines_more task [] i a l e = absurd (omega (arith, l))
lines_more task (x ∷ list) zero a l e = ap (λ (n : ℕ). line_of task n) e ∙ sym (append-nil (line_of task x))
lines_more task (x ∷ list) (suc i) a l e =
    let r = lines_more task list i a (omega (arith, l)) e in
    let n : suc (i + 1) ≡ suc i + 1 = omega arith in
    append_assoc (line_of task x) (plan_lines task (take i list)) (line_of task a) ∙ ap (λ (bs : List ℕ). line_of task x ++ bs) r ∙ ap (λ (m : ℕ). plan_lines task (take m (x ∷ list))) n

pub lines_cut : (task : TaskView) (m : ℕ) (list : List ℕ) → plan_lines task list ≡ plan_lines task (take m list) ++ plan_lines task (drop m list)
lines_cut task zero list = refl
lines_cut task (suc m) [] = refl
lines_cut task (suc m) (x ∷ list) = ap (λ (bs : List ℕ). line_of task x ++ bs) (lines_cut task m list) ∙ sym (append_assoc (line_of task x) (plan_lines task (take m list)) (plan_lines task (drop m list)))

pub all_next : (P : ℕ → Type 0) (list : List ℕ) (i : ℕ) → i < length list → AllByRecursion P (drop i list) → AllByRecursion P (drop (i + 1) list)
all_next P [] i l h = absurd (omega (arith, l))
all_next P (x ∷ list) zero l h = h.1
all_next P (x ∷ list) (suc i) l h =
    let n : suc (i + 1) ≡ suc i + 1 = omega arith in
    subst (λ (m : ℕ). AllByRecursion P (drop m (x ∷ list))) n (all_next P list i (omega (arith, l)) h)
