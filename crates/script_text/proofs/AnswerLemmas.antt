-- The answer in the words of what is spelled.
use Rattle.std.proofs.Common.{◌≡◌, ℕ, ◌<◌, ◌≤◌, ◌^◌, List, [], Option, None, Result, Ok, Err, IfOk, map, length, sym, ◌∙◌}
use Rattle.std.specs.List.{All}
use Rattle.bd_base.specs.declared.text_err.Limit.{Limit}
use Rattle.bd_base.specs.declared.text_err.TextErr.{TextErr}
use Rattle.bd_base.specs.declared.text_err.TextErr.TheVariants as errors
use Rattle.bd_task.specs.declared.ground.Action.{Action}
use Rattle.bd_task.specs.TaskView.{IsTask}
use Rattle.plan_core.specs.Replies.{IsLent}
use Rattle.script_text.specs.declared.script.Script.{Script}
use Rattle.script_text.specs.Lines.{worded}
use Rattle.script_text.specs.Reading.{Fault}
use Rattle.script_text.specs.Whole.{script_at}
use Rattle.script_text.specs.Limits.{over_of, Answers, Spelled}
use Rattle.script_text.specs.Range.{HasActionsBelow, StartsBy}
use Rattle.script_text.specs.Spells.{AreNew}
use Rattle.script_text.proofs.FitLemmas.{task_fits, plan_below, all_below, stop_fits, offers_below, names_new}
use Rattle.script_text.proofs.LentLemmas.{all_lent}
use Rattle.script_text.proofs.StartLemmas.{starts_by}
use Rattle.script_text.proofs.SpellsLemmas.{spelled_read}
use Rattle.script_text.proofs.WholeLemmas.{read_spelled}

apart : (f : Fault) (s : Script) (r : Result Script Fault) → r ≡ Err f → r ≡ Ok s → ⊥
apart f s r e h = cc

pub spelled_of : (text : List ℕ) (result : Result Script TextErr) → Answers result (script_at (worded text)) → Spelled text result
spelled_of text (Ok s) h = (read_spelled text s h.0, h.1)
spelled_of text (Err errors.NoMemory) h = tt
spelled_of text (Err (errors.Over limit count)) h = (h.0, read_spelled text h.0 h.1, h.2)
spelled_of text (Err (errors.At place cause)) h = λ s k. apart (place, cause) s _ h (spelled_read text s k)

-- what the callers need of it

pub in_range_of : (text : List ℕ) (result : Result Script TextErr) → Answers result (script_at (worded text)) → IfOk result (λ (s : Script). All (λ a. a < length s.task.actions) s.plan)
in_range_of text (Ok s) h = all_below (length s.task.actions) s.plan (plan_below text s (read_spelled text s h.0))
in_range_of text (Err e) h = tt

pub stops_of : (text : List ℕ) (result : Result Script TextErr) → Answers result (script_at (worded text)) → IfOk result (λ (s : Script). (0 < s.stop) × (s.stop ≤ 1_000_000))
stops_of text (Ok s) h = let k = read_spelled text s h.0 in stop_fits k.source.stop s.stop k.stop
stops_of text (Err e) h = tt

pub start_of : (text : List ℕ) (result : Result Script TextErr) → Answers result (script_at (worded text)) → IfOk result (λ (s : Script). StartsBy (length s.task.actions) (length text) s.plan s.start)
start_of text (Ok s) h = starts_by text s (read_spelled text s h.0)
start_of text (Err e) h = tt

pub offers_in_range_of : (text : List ℕ) (result : Result Script TextErr) → Answers result (script_at (worded text)) → IfOk result (λ (s : Script). All (λ o. HasActionsBelow (length s.task.actions) o) s.offers)
offers_in_range_of text (Ok s) h = offers_below text s (read_spelled text s h.0)
offers_in_range_of text (Err e) h = tt

pub offers_lent_of : (text : List ℕ) (result : Result Script TextErr) → length text < 2 ^ 32 → Answers result (script_at (worded text)) → IfOk result (λ (s : Script). All IsLent s.offers)
offers_lent_of text (Ok s) lt h = all_lent text s lt (read_spelled text s h.0)
offers_lent_of text (Err e) lt h = tt

pub distinct_of : (text : List ℕ) (result : Result Script TextErr) → Answers result (script_at (worded text)) → IfOk result (λ (s : Script). AreNew [] s.task.facts × AreNew [] (map (λ (a : Action). a.name) s.task.actions))
distinct_of text (Ok s) h = names_new text s (read_spelled text s h.0)
distinct_of text (Err e) h = tt

pub parts_fit : (text : List ℕ) (s : Script) (o : Option (Limit × ℕ)) → script_at (worded text) ≡ Ok s → o ≡ over_of s → o ≡ None → IsTask s.task
parts_fit text s o h e n = task_fits text s (read_spelled text s h) (sym e ∙ n)
