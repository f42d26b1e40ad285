-- Each status that the words and the texts decide comes exactly where its cause stands: a text has one of them.
use Rattle.std.proofs.Common.{◌≡◌, ◌⊎◌, inl, inr, ℕ, List, Option, Some, None, Result, Ok, Err, refl, sym, ap, ◌∙◌, subst}
use Rattle.bd_base.specs.Shelf.{Told, text}
use Rattle.bd_base.specs.declared.text_err.Cause.{Cause}
use Rattle.bd_task.specs.Valid.{Break, IsValid, first_break, step_lacks, goal_lacks}
use Rattle.seq_check.specs.declared.judging.Broken.{Broken}
use Rattle.seq_check.specs.declared.judging.Broken.TheVariants as broken
use Rattle.script_text.specs.declared.script.Script.{Script}
use Rattle.script_text.specs.Lines.{worded}
use Rattle.script_text.specs.Whole.{script_at}
use Rattle.script_text.proofs.SpellsLemmas.{one_spelled}
use Rattle.run_texts.specs.declared.record.RunRecord.{RunRecord}
use Rattle.bd_top.specs.declared.status.File.{File}
use Rattle.bd_top.specs.declared.status.File.TheVariants as file
use Rattle.bd_top.specs.declared.status.Status.{Status}
use Rattle.bd_top.specs.declared.status.Status.TheVariants as status
use Rattle.task_inputs.specs.Reads.{Counts, WasRead, IsToldAs}
use Rattle.bd_top.specs.Prepared.{AsksErrands, Names, NamesTexts, IsErrandsRefusal, IsNamedRefusal, IsTextsRefusal, IsReadyText, IsTextRefusal, IsBroken, IsNoScript, IsUnsoundStart}
use Rattle.bd_top.specs.Words.{errands_asked, script_named, texts_named}
use Rattle.command_words.specs.Asked.{Names as TextNames}
use Rattle.bd_top.specs.Run.{Ends, IsAllDone, IsDecided, IsExact, IsExactBench, IsExactRun, IsExactCheck, IsNamedText}
use Rattle.run_texts.specs.Taken.{Taken}
use Rattle.bd_top.proofs.CompleteLemmas.{no_ready_refusal}
use Rattle.bd_top.proofs.BenchLemmas.{bench_done, bench_invalid, bench_refused}
use Rattle.bd_top.proofs.CommandLemmas.{errands_no_script, errands_no_texts, one_command}
use Rattle.bd_top.proofs.CheckLemmas.{check_done, check_invalid, check_refused}

-- of one text, all that is refused has one cause

same_break : (a b : Break) (o p : Option Break) → o ≡ p → o ≡ Some a → p ≡ Some b → a ≡ b
same_break a b o p e h k = cc

one_break : (t : List ℕ) (a b : Break) (line other : List ℕ) → IsBroken t a line → IsBroken t b other → a ≡ b
one_break t a b line other h k =
    same_break a b (first_break h.script.task h.script.plan) (first_break k.script.task k.script.plan)
    (ap (λ (s : Script). first_break s.task s.plan) (one_spelled t h.script k.script h.spelled k.spelled)) h.first k.first

abbrev broken_of : Break → Broken
broken_of (step_lacks at f) = broken.Step at f
broken_of (goal_lacks f) = broken.Goal f

abbrev told_by : Result Script (ℕ × Cause) → Status
told_by (Ok script) = status.Done
told_by (Err e) = status.TextRefused file.Script e.0 e.1

one_place : (place other : ℕ) (c d : Cause) (o : Result Script (ℕ × Cause)) → o ≡ Err (place, c) → o ≡ Err (other, d) → status.TextRefused file.Script place c ≡ status.TextRefused file.Script other d
one_place place other c d o h k = ap told_by (sym h ∙ k)

one_start : (t : List ℕ) (place other : ℕ) (c d : Cause) (line more : List ℕ) → IsUnsoundStart t place c line → IsUnsoundStart t other d more → status.TextRefused file.Script place c ≡ status.TextRefused file.Script other d
one_start t place other c d line more h k =
    let same : h.script.start_line ≡ k.script.start_line = ap (λ (s : Script). s.start_line) (one_spelled t h.script k.script h.spelled k.spelled) in
    cc (same, h.fails.at, k.fails.at, h.fails.told, k.fails.told)

no_broken_start : (t : List ℕ) (a : Break) (place : ℕ) (c : Cause) (line more : List ℕ) → IsBroken t a line → IsUnsoundStart t place c more → ⊥
no_broken_start t a place c line more h k =
    h.invalid (subst (λ (s : Script). IsValid s.task s.plan) (one_spelled t k.script h.script k.spelled h.spelled) k.fails.valid)

one_text : (t : List ℕ) (place other : ℕ) (c d : Cause) (line more : List ℕ) → IsNoScript t place c line ⊎ IsUnsoundStart t place c line → IsNoScript t other d more ⊎ IsUnsoundStart t other d more →
    status.TextRefused file.Script place c ≡ status.TextRefused file.Script other d
one_text t place other c d line more (inl h) (inl k) = one_place place other c d (script_at (worded t)) h.first k.first
one_text t place other c d line more (inl h) (inr k) = absurd (h.none k.script k.spelled)
one_text t place other c d line more (inr h) (inl k) = absurd (k.none h.script h.spelled)
one_text t place other c d line more (inr h) (inr k) = one_start t place other c d line more h k

no_both : (t : List ℕ) (a : Break) (place : ℕ) (c : Cause) (line more : List ℕ) → IsBroken t a line → IsNoScript t place c more ⊎ IsUnsoundStart t place c more → ⊥
no_both t a place c line more h (inl k) = k.none h.script h.spelled
no_both t a place c line more h (inr k) = no_broken_start t a place c line more h k

one_plan : (t : List ℕ) (b d : Broken) (line more : List ℕ) → IsTextRefusal t (status.PlanInvalid b) line → IsTextRefusal t (status.PlanInvalid d) more → status.PlanInvalid b ≡ status.PlanInvalid d
one_plan t (broken.Step at f) (broken.Step at' f') line more h k = ap (λ (e : Break). status.PlanInvalid (broken_of e)) (one_break t (step_lacks at f) (step_lacks at' f') line more h k)
one_plan t (broken.Step at f) (broken.Goal f') line more h k = ap (λ (e : Break). status.PlanInvalid (broken_of e)) (one_break t (step_lacks at f) (goal_lacks f') line more h k)
one_plan t (broken.Goal f) (broken.Step at' f') line more h k = ap (λ (e : Break). status.PlanInvalid (broken_of e)) (one_break t (goal_lacks f) (step_lacks at' f') line more h k)
one_plan t (broken.Goal f) (broken.Goal f') line more h k = ap (λ (e : Break). status.PlanInvalid (broken_of e)) (one_break t (goal_lacks f) (goal_lacks f') line more h k)
one_plan t broken.NoMemory d line more h k = absurd h
one_plan t b broken.NoMemory line more h k = absurd k

no_plan_text : (t : List ℕ) (b : Broken) (f : File) (place : ℕ) (c : Cause) (line more : List ℕ) → IsTextRefusal t (status.PlanInvalid b) line → IsTextRefusal t (status.TextRefused f place c) more → ⊥
no_plan_text t (broken.Step at fact) file.Script place c line more h k = no_both t (step_lacks at fact) place c line more h k
no_plan_text t (broken.Goal fact) file.Script place c line more h k = no_both t (goal_lacks fact) place c line more h k
no_plan_text t broken.NoMemory f place c line more h k = h
no_plan_text t b file.Domain place c line more h k = k
no_plan_text t b file.Problem place c line more h k = k
no_plan_text t b file.Plan place c line more h k = k

one_refused : (t : List ℕ) (f g : File) (place other : ℕ) (c d : Cause) (line more : List ℕ) → IsTextRefusal t (status.TextRefused f place c) line → IsTextRefusal t (status.TextRefused g other d) more →
    status.TextRefused f place c ≡ status.TextRefused g other d
one_refused t file.Script file.Script place other c d line more h k = one_text t place other c d line more h k
one_refused t file.Script file.Domain place other c d line more h k = absurd k
one_refused t file.Script file.Problem place other c d line more h k = absurd k
one_refused t file.Script file.Plan place other c d line more h k = absurd k
one_refused t file.Domain g place other c d line more h k = absurd h
one_refused t file.Problem g place other c d line more h k = absurd h
one_refused t file.Plan g place other c d line more h k = absurd h

some_none : {A : Type 0} (o : Option A) (a : A) → o ≡ Some a → o ≡ None → ⊥
some_none o a e h = cc

done_usage : status.Done ≡ status.Usage → ⊥
done_usage e = cc

done_invalid : (b : Broken) → status.Done ≡ status.PlanInvalid b → ⊥
done_invalid b e = cc

done_refused : (f : File) (place : ℕ) (c : Cause) → status.Done ≡ status.TextRefused f place c → ⊥
done_refused f place c e = cc

invalid_usage : (b : Broken) → status.PlanInvalid b ≡ status.Usage → ⊥
invalid_usage b e = cc

invalid_refused : (b : Broken) (f : File) (place : ℕ) (c : Cause) → status.PlanInvalid b ≡ status.TextRefused f place c → ⊥
invalid_refused b f place c e = cc

refused_usage : (f : File) (place : ℕ) (c : Cause) → status.TextRefused f place c ≡ status.Usage → ⊥
refused_usage f place c e = cc

module _ (words : List (List ℕ)) (tells : List ℕ → Told) where
  -- what was read of the name is the text that is told
  told_text : (t : List ℕ) (P : List ℕ → Type 0) → IsNamedText words tells t → Names words (λ name. WasRead (tells name) P) → P t
  told_text t P n h =
      let same : tells h.name ≡ text t = ap tells (one_name h.name n.name h.named n.named) ∙ n.told in
      subst P (sym (subst (λ z. IsToldAs z h.holds.read) same h.holds.is_told)) h.holds.holds
    where
      one_name : (m n : List ℕ) → script_named words ≡ Some m → script_named words ≡ Some n → m ≡ n
      one_name m n e k = cc

  -- the words name no script, or no texts, or ask for no errands
  no_script : ((name : List ℕ) → script_named words ≡ Some name → ⊥) → (why : Status) → IsExactRun words tells why
  no_script never why = record { done = λ t n. absurd (never n.name n.named); invalid = λ t n b. absurd (never n.name n.named); refused = λ t n f place c. absurd (never n.name n.named) }

  no_texts : ((names : TextNames) → texts_named words ≡ Some names → ⊥) → (why : Status) → IsExactCheck words tells why
  no_texts never why = λ d p q n. absurd (never n.names n.named)

  no_errands : ((size : ℕ) → errands_asked words ≡ Some size → ⊥) → (why : Status) → IsExactBench words why
  no_errands never why = λ size asked. absurd (never size asked)

  by_script : (name : List ℕ) → script_named words ≡ Some name → (why : Status) → (why ≡ status.Usage → ⊥) → IsExactRun words tells why → IsExact words tells why
  by_script name named why not run = record {
    usage = ((λ e. absurd (not e)), (λ h. absurd (some_none (script_named words) name named h.0)));
    run = run;
    check = no_texts (λ names e. one_command words name names named e) why;
    bench = no_errands (λ size e. errands_no_script words size e name named) why;
  }

  by_texts : (names : TextNames) → texts_named words ≡ Some names → (why : Status) → (why ≡ status.Usage → ⊥) → IsExactCheck words tells why → IsExact words tells why
  by_texts names named why not check = record {
    usage = ((λ e. absurd (not e)), (λ h. absurd (some_none (texts_named words) names named h.1)));
    run = no_script (λ name e. one_command words name names e named) why;
    check = check;
    bench = no_errands (λ size e. errands_no_texts words size e names named) why;
  }

  by_errands : (size : ℕ) → errands_asked words ≡ Some size → (why : Status) → (why ≡ status.Usage → ⊥) → IsExactBench words why → IsExact words tells why
  by_errands size asked why not bench = record {
    usage = ((λ e. absurd (not e)), (λ h. absurd (some_none (errands_asked words) size asked h.2)));
    run = no_script (λ name e. errands_no_script words size asked name e) why;
    check = no_texts (λ names e. errands_no_texts words size asked names e) why;
    bench = bench;
  }

  -- usage
  usage_exact : script_named words ≡ None → texts_named words ≡ None → errands_asked words ≡ None → IsExact words tells status.Usage
  usage_exact none never nothing = record {
    usage = ((λ e. (none, never, nothing)), (λ e. refl));
    run = no_script (λ name e. some_none (script_named words) name e none) status.Usage;
    check = no_texts (λ names e. some_none (texts_named words) names e never) status.Usage;
    bench = no_errands (λ size e. some_none (errands_asked words) size e nothing) status.Usage;
  }

  -- a script that is ready
  done_exact : (script : Script) → Names words (λ name. WasRead (tells name) (λ t. IsReadyText t script)) → IsExactRun words tells status.Done
  done_exact script h = record {
    done = λ t n. ((λ e. record { script = script; ready = told_text t (λ u. IsReadyText u script) n h }), (λ e. refl));
    invalid = λ t n b. ((λ e. absurd (done_invalid b e)), (λ r. absurd (no_ready_refusal t script (told_text t (λ u. IsReadyText u script) n h) (status.PlanInvalid b) r.line r.refusal)));
    refused = λ t n f place c. ((λ e. absurd (done_refused f place c e)), (λ r. absurd (no_ready_refusal t script (told_text t (λ u. IsReadyText u script) n h) (status.TextRefused f place c) r.line r.refusal)));
  }

  -- a plan that isn't valid
  invalid_exact : (b : Broken) (line : List ℕ) → Names words (λ name. WasRead (tells name) (λ t. IsTextRefusal t (status.PlanInvalid b) line)) → IsExactRun words tells (status.PlanInvalid b)
  invalid_exact b line h = record {
    done = λ t n. ((λ e. absurd (done_invalid b (sym e))), (λ r. absurd (no_ready_refusal t r.script r.ready (status.PlanInvalid b) line (is t n))));
    invalid = λ t n d. ((λ e. record { line = line; refusal = subst (λ z. IsTextRefusal t z line) e (is t n) }), (λ r. one_plan t b d line r.line (is t n) r.refusal));
    refused = λ t n f place c. ((λ e. absurd (invalid_refused b f place c e)), (λ r. absurd (no_plan_text t b f place c line r.line (is t n) r.refusal)));
  }
    where
      is : (t : List ℕ) → IsNamedText words tells t → IsTextRefusal t (status.PlanInvalid b) line
      is t n = told_text t (λ u. IsTextRefusal u (status.PlanInvalid b) line) n h

  -- a text that is refused
  refused_exact : (f : File) (place : ℕ) (c : Cause) (line : List ℕ) → Names words (λ name. WasRead (tells name) (λ t. IsTextRefusal t (status.TextRefused f place c) line)) →
      IsExactRun words tells (status.TextRefused f place c)
  refused_exact f place c line h = record {
    done = λ t n. ((λ e. absurd (done_refused f place c (sym e))), (λ r. absurd (no_ready_refusal t r.script r.ready (status.TextRefused f place c) line (is t n))));
    invalid = λ t n b. ((λ e. absurd (invalid_refused b f place c (sym e))), (λ r. absurd (no_plan_text t b f place c r.line line r.refusal (is t n))));
    refused = λ t n g other d. ((λ e. record { line = line; refusal = subst (λ z. IsTextRefusal t z line) e (is t n) }), (λ r. one_refused t f g place other c d line r.line (is t n) r.refusal));
  }
    where
      is : (t : List ℕ) → IsNamedText words tells t → IsTextRefusal t (status.TextRefused f place c) line
      is t n = told_text t (λ u. IsTextRefusal u (status.TextRefused f place c) line) n h

  module _ (c : Counts) (out notes : Taken) where
    of_run : (run : Option RunRecord) → IsAllDone words tells out notes run → IsExact words tells status.Done
    of_run None h = by_texts h.checked.names h.checked.named status.Done done_usage (check_done words tells h.cost h.checked)
    of_run (Some run) (inr (inl h)) = by_texts h.is_run.checked.names h.is_run.checked.named status.Done done_usage (check_done words tells h.is_run.cost h.is_run.checked)
    of_run (Some run) (inr (inr (inr h))) = by_errands h.is_run.size h.is_run.asked status.Done done_usage (bench_done words run h.is_run)
    of_run (Some run) (inr (inr (inl h))) = by_texts h.is_run.checked.names h.is_run.checked.named status.Done done_usage (check_done words tells h.is_run.cost h.is_run.checked)
    of_run (Some run) (inl h) = by_script h.recorded.ready.name h.recorded.ready.named status.Done done_usage (done_exact h.recorded.script h.recorded.ready)

    of_invalid : (b : Broken) (line : List ℕ) → Names words (λ name. IsNamedRefusal name (tells name) c (status.PlanInvalid b) line) ⊎ NamesTexts words (λ names. IsTextsRefusal names tells c (status.PlanInvalid b) line)
        ⊎ AsksErrands words (λ size. IsErrandsRefusal size (status.PlanInvalid b) line) → IsExact words tells (status.PlanInvalid b)
    of_invalid b line (inl h) = by_script h.name h.named (status.PlanInvalid b) (invalid_usage b) (invalid_exact b line h)
    of_invalid b line (inr (inr h)) = by_errands h.size h.asked (status.PlanInvalid b) (invalid_usage b) (bench_invalid words b line h)
    of_invalid b line (inr (inl h)) = by_texts h.names h.named (status.PlanInvalid b) (invalid_usage b) (check_invalid words tells c b line h)

    of_refused : (f : File) (place : ℕ) (cause : Cause) (line : List ℕ) → Names words (λ name. IsNamedRefusal name (tells name) c (status.TextRefused f place cause) line) ⊎ NamesTexts words (λ names. IsTextsRefusal names tells c (status.TextRefused f place cause) line)
        ⊎ AsksErrands words (λ size. IsErrandsRefusal size (status.TextRefused f place cause) line) → IsExact words tells (status.TextRefused f place cause)
    of_refused f place cause line (inl h) = by_script h.name h.named (status.TextRefused f place cause) (refused_usage f place cause) (refused_exact f place cause line h)
    of_refused f place cause line (inr (inr h)) = by_errands h.size h.asked (status.TextRefused f place cause) (refused_usage f place cause) (bench_refused words f place cause line h)
    of_refused f place cause line (inr (inl h)) = by_texts h.names h.named (status.TextRefused f place cause) (refused_usage f place cause) (check_refused words tells c f place cause line h)

    pub exact : (why : Status) (run : Option RunRecord) → Ends words tells c out notes why run → IsDecided why → IsExact words tells why
    exact status.Done run h d = of_run run h
    exact (status.PlanInvalid b) run h d = of_invalid b h.line h.refusal
    exact status.Usage run h d = usage_exact h.refusal.0 h.refusal.1 h.refusal.2
    exact (status.TextRefused f place cause) run h d = of_refused f place cause h.line h.refusal
    exact other run h d = absurd d
