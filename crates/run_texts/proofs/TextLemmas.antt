-- Laws for crates above: texts of lists that are put together, and what a sink has received of a text that grew.
use Rattle.std.proofs.Common.{◌≡◌, ℕ, ◌+◌, List, [], ◌∷◌, ◌++◌, length, Result, Ok, Err, slice_get, refl, sym, ap, ◌∙◌, append_assoc, add-zero, arith}
use Rattle.bd_task.specs.TaskView.{TaskView}
use Rattle.plan_core.specs.Core.{State, applied, replay}
use Rattle.plan_core.specs.declared.offer.Offer.{Offer}
use Rattle.plan_core.specs.declared.refusal.Refusal.{Refusal}
use Rattle.run_texts.specs.Texts.{shown, name_by, newline, plan_lines, entry_text, better_texts, reply_line, reply_texts}

pub plan_lines-append : (task : TaskView) (xs ys : List ℕ) → plan_lines task (xs ++ ys) ≡ plan_lines task xs ++ plan_lines task ys
plan_lines-append task [] ys = refl
plan_lines-append task (x ∷ xs) ys =
    ap (λ z. shown (name_by (slice_get task.actions x)) ++ newline ++ z) (plan_lines-append task xs ys)
    ∙ sym (append_assoc (shown (name_by (slice_get task.actions x)) ++ newline) (plan_lines task xs) (plan_lines task ys))

-- one more entry
pub better_texts-more : (task : TaskView) (place : ℕ) (state : State) (xs : List Offer) (x : Offer) →
    better_texts task place state (xs ++ x ∷ []) ≡ better_texts task place state xs ++ better_texts task (place + length xs) (replay state xs) (x ∷ [])
better_texts-more task place state [] x = rw (add-zero place) refl
better_texts-more task place state (offer ∷ xs) x =
    let next = applied offer state in
    let front = entry_text task (place + 1) offer next.tree in
    let count : place + 1 + length xs ≡ place + length (offer ∷ xs) = omega arith in
    ap (λ z. front ++ z) (better_texts-more task (place + 1) next xs x ∙ ap (λ n. better_texts task (place + 1) next xs ++ better_texts task n (replay next xs) (x ∷ [])) count)
    ∙ sym (append_assoc front (better_texts task (place + 1) next xs) (better_texts task (place + length (offer ∷ xs)) (replay next xs) (x ∷ [])))

-- one more reply
pub reply_texts-more : (task : TaskView) (number : ℕ) (xs : List (Result ℕ Refusal)) (x : Result ℕ Refusal) →
    reply_texts task number (xs ++ x ∷ []) ≡ reply_texts task number xs ++ reply_texts task (number + length xs) (x ∷ [])
reply_texts-more task number [] x = rw (add-zero number) refl
reply_texts-more task number (Ok place ∷ xs) x =
    let count : number + 1 + length xs ≡ number + length (Ok place ∷ xs) = omega arith in
    reply_texts-more task (number + 1) xs x ∙ ap (λ n. reply_texts task (number + 1) xs ++ reply_texts task n (x ∷ [])) count
reply_texts-more task number (Err why ∷ xs) x =
    let count : number + 1 + length xs ≡ number + length (Err why ∷ xs) = omega arith in
    let front = reply_line task number why in
    ap (λ z. front ++ z) (reply_texts-more task (number + 1) xs x ∙ ap (λ n. reply_texts task (number + 1) xs ++ reply_texts task n (x ∷ [])) count)
    ∙ sym (append_assoc front (reply_texts task (number + 1) xs) (reply_texts task (number + length (Err why ∷ xs)) (x ∷ [])))

-- five pieces that are put one behind the other
pub five_behind : (o a b c d e s t u v w : List ℕ) → s ≡ o ++ a → t ≡ s ++ b → u ≡ t ++ c → v ≡ u ++ d → w ≡ v ++ e → w ≡ o ++ (a ++ b ++ c ++ d ++ e)
five_behind o a b c d e s t u v w first second third fourth fifth =
    fifth ∙ ap (λ z. z ++ e) (fourth ∙ ap (λ z. z ++ d) (third ∙ ap (λ z. z ++ c) (second ∙ ap (λ z. z ++ b) first ∙ append_assoc o a b) ∙ append_assoc o (a ++ b) c) ∙ append_assoc o (a ++ b ++ c) d)
    ∙ append_assoc o (a ++ b ++ c ++ d) e
