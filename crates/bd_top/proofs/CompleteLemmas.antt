-- A good script is run, where nothing outside fails: every other status contradicts what it comes with.
use Rattle.std.proofs.Common.{◌≡◌, ℕ, ◌<◌, ◌≤◌, Bool, true, false, List, Option, Some, None, unwrap_or, ◌⊎◌, inl, inr, length, sym, ap, ◌∙◌, subst, arith}
use Rattle.bd_base.specs.Shelf.{Told, text}
use Rattle.bd_base.specs.declared.text_err.Limit.{Limit}
use Rattle.bd_base.specs.declared.text_err.Limit.TheVariants as limit
use Rattle.bd_task.specs.Valid.{IsValid}
use Rattle.bd_tree.specs.declared.node.Node.{Node}
use Rattle.bd_tree.specs.Chain.{chain_of}
use Rattle.bd_links.specs.Sound.{IsSound}
use Rattle.seq_check.specs.declared.judging.Broken.TheVariants as broken
use Rattle.script_text.specs.declared.script.Script.{Script}
use Rattle.script_text.specs.Limits.{over_of}
use Rattle.script_text.specs.Spells.{SpellsScript}
use Rattle.script_text.proofs.SpellsLemmas.{one_spelled}
use Rattle.run_texts.specs.declared.record.RunRecord.{RunRecord}
use Rattle.bd_top.specs.declared.status.File.TheVariants as file
use Rattle.bd_top.specs.declared.status.Status.{Status}
use Rattle.bd_top.specs.declared.status.Status.TheVariants as status
use Rattle.task_inputs.specs.Reads.{Counts, WasRead, IsToldAs, IsUnread, IsLong}
use Rattle.bd_top.specs.Prepared.{AsksErrands, Names, NamesTexts, IsErrandsRefusal, IsTextRefusal, IsTextsRefusal, IsNamedRefusal, IsRefusal, HasUnsoundStart, IsReadyText, start_of}
use Rattle.bd_top.proofs.CommandLemmas.{errands_no_script, one_command}
use Rattle.bd_top.specs.Run.{Ends, HasWriteFault, IsGood, IsFaultless, IsDoneOrNoMemory}
use Rattle.run_texts.specs.Taken.{Taken, HasFailed}

differs : {A : Type 0} (o : Option A) (a : A) → o ≡ None → o ≡ Some a → ⊥
differs o a e h = cc

named_same : (o : Option (List ℕ)) (m n : List ℕ) → o ≡ Some m → o ≡ Some n → n ≡ m
named_same o m n e h = cc

-- the text spells a script within the limits, whose plan is valid and whose start tree, where it has one, is sound
module _ (t : List ℕ) (script : Script) (spelled : SpellsScript t script) (within : over_of script ≡ None) (valid : IsValid script.task script.plan)
    (starts : (root : Node) → script.start ≡ Some root → IsSound script.task root) where
  not_valid : (s : Script) → s ≡ script → (IsValid s.task s.plan → ⊥) → ⊥
  not_valid s same invalid = invalid (subst (λ (z : Script). IsValid z.task z.plan) (sym same) valid)

  no_over : (s : Script) (o : Limit × ℕ) → s ≡ script → over_of s ≡ Some o → ⊥
  no_over s o same e = differs (over_of script) o within (subst (λ (z : Script). over_of z ≡ Some o) same e)

  not_unsound : (s : Script) → s ≡ script → HasUnsoundStart s → ⊥
  not_unsound s same h = h.unsound (subst (λ (z : Script). IsSound z.task h.root) (sym same) (starts h.root (ap (λ (z : Script). z.start) (sym same) ∙ h.starts)))

  same_script : (s : Script) → SpellsScript t s → s ≡ script
  same_script s h = one_spelled t s script h spelled

  no_text_refusal : (why : Status) (line : List ℕ) → IsTextRefusal t why line → ⊥
  no_text_refusal (status.PlanInvalid (broken.Step at f)) line h = not_valid h.script (same_script h.script h.spelled) h.invalid
  no_text_refusal (status.PlanInvalid (broken.Goal f)) line h = not_valid h.script (same_script h.script h.spelled) h.invalid
  no_text_refusal (status.PlanInvalid broken.NoMemory) line h = h
  no_text_refusal (status.TextRefused file.Script place cause) line (inl h) = h.none script spelled
  no_text_refusal (status.TextRefused file.Script place cause) line (inr h) = not_unsound h.script (same_script h.script h.spelled) h.fails.start
  no_text_refusal (status.TextRefused file.Domain place cause) line h = h
  no_text_refusal (status.TextRefused file.Problem place cause) line h = h
  no_text_refusal (status.TextRefused file.Plan place cause) line h = h
  no_text_refusal (status.OverLimit l count) line h = no_over h.script (l, count) (same_script h.script h.spelled) h.over
  no_text_refusal status.Done line h = h
  no_text_refusal status.Usage line h = h
  no_text_refusal (status.ReadFault n missing) line h = h
  no_text_refusal status.WriteFault line h = h
  no_text_refusal status.NoMemory line h = h

started : (script : Script) → IsSound script.task (start_of script) → (root : Node) → script.start ≡ Some root → IsSound script.task root
started script sound root e = subst (λ (z : Option Node). IsSound script.task (unwrap_or z (chain_of script.plan))) e sound

-- a text that is ready to run is refused for nothing
pub no_ready_refusal : (t : List ℕ) (script : Script) → IsReadyText t script → (why : Status) (line : List ℕ) → IsTextRefusal t why line → ⊥
no_ready_refusal t script h why line refusal = no_text_refusal t script h.spelled h.within h.runs.valid (started script h.runs.sound) why line refusal

module _ (words : List (List ℕ)) (tells : List ℕ → Told) (script : Script) (good : IsGood words tells script) where
  read_same : (read : List ℕ) → IsToldAs (tells good.name) read → good.read ≡ read
  read_same read told = subst (λ z. IsToldAs z read) good.told told

  no_read_refusal : (why : Status) (line : List ℕ) → WasRead (tells good.name) (λ t. IsTextRefusal t why line) → ⊥
  no_read_refusal why line r =
      no_text_refusal r.read script (subst (λ z. SpellsScript z script) (read_same r.read r.is_told) good.spelled) good.within good.valid good.starts why line r.holds

  module _ (c : Counts) (faultless : IsFaultless c.faults c.faults_after) where
    read_fault : (missing : Bool) → IsUnread (text good.read) c missing → ⊥
    read_fault true h = h
    read_fault false h = faultless h.0

    too_long : IsLong (text good.read) c → ⊥
    too_long h = let long : 16_777_216 < length good.read = h.1 in let short : length good.read ≤ 16_777_216 = good.short in omega arith

    no_named_refusal : (why : Status) (line : List ℕ) → IsNamedRefusal good.name (tells good.name) c why line → ⊥
    no_named_refusal (status.ReadFault n missing) line h = read_fault missing (subst (λ z. IsUnread z c missing) good.told h.2)
    no_named_refusal (status.OverLimit limit.Text count) line h = too_long (subst (λ z. IsLong z c) good.told h.2)
    no_named_refusal (status.OverLimit limit.Parameters count) line h = no_read_refusal (status.OverLimit limit.Parameters count) line h
    no_named_refusal (status.OverLimit limit.Objects count) line h = no_read_refusal (status.OverLimit limit.Objects count) line h
    no_named_refusal (status.OverLimit limit.Facts count) line h = no_read_refusal (status.OverLimit limit.Facts count) line h
    no_named_refusal (status.OverLimit limit.Actions count) line h = no_read_refusal (status.OverLimit limit.Actions count) line h
    no_named_refusal (status.OverLimit limit.Steps count) line h = no_read_refusal (status.OverLimit limit.Steps count) line h
    no_named_refusal (status.OverLimit limit.Offers count) line h = no_read_refusal (status.OverLimit limit.Offers count) line h
    no_named_refusal (status.PlanInvalid b) line h = no_read_refusal (status.PlanInvalid b) line h
    no_named_refusal (status.TextRefused f place cause) line h = no_read_refusal (status.TextRefused f place cause) line h
    no_named_refusal status.Done line h = no_read_refusal status.Done line h
    no_named_refusal status.Usage line h = no_read_refusal status.Usage line h
    no_named_refusal status.WriteFault line h = no_read_refusal status.WriteFault line h
    no_named_refusal status.NoMemory line h = no_read_refusal status.NoMemory line h

    of_name : (why : Status) (line : List ℕ) → Names words (λ name. IsNamedRefusal name (tells name) c why line) ⊎ NamesTexts words (λ names. IsTextsRefusal names tells c why line) ⊎ AsksErrands words (λ size. IsErrandsRefusal size why line) → ⊥
    of_name why line (inl h) = no_named_refusal why line (subst (λ z. IsNamedRefusal z (tells z) c why line) (named_same _ good.name h.name good.named h.named) h.holds)
    of_name why line (inr (inl h)) = one_command words good.name h.names good.named h.named
    of_name why line (inr (inr h)) = errands_no_script words h.size h.asked good.name good.named

    no_refusal : (why : Status) (line : List ℕ) → IsRefusal words tells c why line → ⊥
    no_refusal status.Usage line h = differs _ good.name h.0 good.named
    no_refusal status.Done line h = of_name status.Done line h
    no_refusal (status.PlanInvalid b) line h = of_name (status.PlanInvalid b) line h
    no_refusal (status.TextRefused f place cause) line h = of_name (status.TextRefused f place cause) line h
    no_refusal (status.ReadFault n missing) line h = of_name (status.ReadFault n missing) line h
    no_refusal status.WriteFault line h = of_name status.WriteFault line h
    no_refusal (status.OverLimit l count) line h = of_name (status.OverLimit l count) line h
    no_refusal status.NoMemory line h = of_name status.NoMemory line h

    no_failure : (out notes : Taken) → IsFaultless out.faults out.faults_after → IsFaultless notes.faults notes.faults_after → HasFailed out ⊎ HasFailed notes → ⊥
    no_failure out notes quiet still (inl h) = quiet h
    no_failure out notes quiet still (inr h) = still h

    no_fault : (out notes : Taken) (run : Option RunRecord) → IsFaultless out.faults out.faults_after → IsFaultless notes.faults notes.faults_after → HasWriteFault words tells out notes run → ⊥
    no_fault out notes None quiet still h = quiet h.printed.failed
    no_fault out notes (Some run) quiet still (inl h) = no_failure out notes quiet still h.failed
    no_fault out notes (Some run) quiet still (inr (inl h)) = quiet h.printed.failed
    no_fault out notes (Some run) quiet still (inr (inr (inl h))) = quiet h.printed.failed
    no_fault out notes (Some run) quiet still (inr (inr (inr h))) = quiet h.printed.failed

    pub complete : (out notes : Taken) (why : Status) (run : Option RunRecord) → IsFaultless out.faults out.faults_after → IsFaultless notes.faults notes.faults_after →
        Ends words tells c out notes why run → IsDoneOrNoMemory why
    complete out notes status.Done run quiet still h = tt
    complete out notes status.NoMemory run quiet still h = tt
    complete out notes status.WriteFault run quiet still h = no_fault out notes run quiet still h
    complete out notes status.Usage run quiet still h = no_refusal status.Usage h.line h.refusal
    complete out notes (status.PlanInvalid b) run quiet still h = no_refusal (status.PlanInvalid b) h.line h.refusal
    complete out notes (status.TextRefused f place cause) run quiet still h = no_refusal (status.TextRefused f place cause) h.line h.refusal
    complete out notes (status.ReadFault n missing) run quiet still h = no_refusal (status.ReadFault n missing) h.line h.refusal
    complete out notes (status.OverLimit l count) run quiet still h = no_refusal (status.OverLimit l count) h.line h.refusal
