-- How a run ends, and what its sinks have received then.
use Rattle.std.specs.Prelude.{◌≡◌, ◌⊎◌, ◌↔◌, ℕ, ◌≤◌, ◌==◌, if◌then◌else◌, List, [], ◌∷◌, length, take, Option, Some, None, Result, Ok, Err}
use Rattle.bd_base.specs.Causes.{Rose}
use Rattle.bd_base.specs.Shelf.{Told, text}
use Rattle.bd_base.specs.declared.text_err.Cause.{Cause}
use Rattle.bd_task.specs.TaskView.{TaskView}
use Rattle.bd_task.specs.Valid.{IsValid}
use Rattle.bd_tree.specs.declared.node.Node.{Node}
use Rattle.bd_links.specs.Sound.{IsSound}
use Rattle.plan_core.specs.Core.{CoreView, opened, opening, replay}
use Rattle.plan_core.specs.Law.{OpensOn, IsLawful, IsPrintable}
use Rattle.plan_core.specs.declared.offer.Offer.{Offer}
use Rattle.plan_core.specs.declared.refusal.Refusal.{Refusal}
use Rattle.seq_check.specs.declared.judging.Broken.{Broken}
use Rattle.script_text.specs.declared.script.Script.{Script}
use Rattle.script_text.specs.Limits.{over_of}
use Rattle.script_text.specs.Spells.{SpellsScript}
use Rattle.bd_pieces.specs.declared.pieces.End.{End}
use Rattle.bd_pieces.specs.declared.pieces.End.TheVariants as end
use Rattle.run_texts.specs.declared.record.RunRecord.{RunRecord}
use Rattle.bd_top.specs.declared.status.File.{File}
use Rattle.bd_top.specs.declared.status.Status.{Status}
use Rattle.bd_top.specs.declared.status.Status.TheVariants as status
use Rattle.run_texts.specs.declared.putting.Stop.{Stop}
use Rattle.run_texts.specs.declared.putting.Stop.TheVariants as stop
use Rattle.task_inputs.specs.Reads.{Counts}
use Rattle.task_inputs.specs.declared.answers.Part.{Part}
use Rattle.task_inputs.specs.declared.answers.Inputs.TheVariants as inputs
use Rattle.task_inputs.specs.Inputs.{outcome, IsValidPlan}
use Rattle.bd_top.specs.Bench.{IsBenchDone, IsBenchCut, IsBenchUntold}
use Rattle.bd_top.specs.Deorder.{IsTreeTold, IsTreeCut, IsTreeUntold}
use Rattle.bd_top.specs.Improve.{IsImproveDone, IsImproveCut, IsImprovePart}
use Rattle.bd_top.specs.declared.purpose.Purpose.TheVariants as purpose
use Rattle.bd_top.specs.Plans.{IsCheckedPlan}
use Rattle.bd_top.specs.Prepared.{IsReady, IsReadyText, IsRefusal, IsTextRefusal, start_of, file_by}
use Rattle.bd_top.specs.Replay.{Makes, IsTold}
use Rattle.run_texts.specs.Taken.{Taken, IsSilent, Receives, ReceivesPart, HasFailed, IsCut}
use Rattle.run_texts.specs.Texts.{summary_of, printed_of, noted_of}
use Rattle.bd_top.specs.Texts.{valid_line}
use Rattle.bd_gen.specs.Errands.{plan_of, problem_of}
use Rattle.bd_gen.specs.declared.sample.TheConstants.{DOMAIN}
use Rattle.bd_top.specs.Words.{errands_asked, purpose_asked, script_named, texts_named}
use Rattle.command_words.specs.Asked.{Names as TextNames}

-- a run ends with its script where every offer was made
abbrev pub end_of : List Offer → List (Result ℕ Refusal) → Option End
end_of offers replies = if length replies == length offers then Some end.Script else None

-- the record of a core that some first offers led to, with their replies
abbrev pub record_of : List Offer → List (Result ℕ Refusal) → CoreView → RunRecord
record_of offers replies core = record {
  task = core.task;
  start = core.start;
  history = core.history;
  tree = core.tree;
  pieces = [];
  replies = replies;
  end = end_of offers replies;
}

-- the run of a list of offers on a core: some first ones of them were made, each reply is the defined one, and of the core that they
-- led to all holds that holds of every core, so that at each place each linearisation of the tree is valid
pub record IsRunOf (core : CoreView) (offers : List Offer) (run : RunRecord) : Type 0 where
  pub last : CoreView
  pub recorded : run ≡ record_of offers run.replies last
  pub opens : OpensOn core.task core.start core.stop last
  pub made : Makes core offers run.replies last
  pub lawful : IsLawful last

-- the core that opens on the tree that a script starts from
abbrev pub opening_of : Script → CoreView
opening_of script = opening script.task (start_of script) script.stop

-- the words and the texts lead to a script with a valid plan and a sound start tree, and this is its run
pub record IsRecorded (words : List (List ℕ)) (tells : List ℕ → Told) (run : RunRecord) : Type 0 where
  pub script : Script
  pub ready : IsReady words tells script
  pub is_run : IsRunOf (opening_of script) script.offers run

-- every offer was made, and the sinks have received exactly what the run puts
pub record IsDone (words : List (List ℕ)) (tells : List ℕ → Told) (out notes : Taken) (run : RunRecord) : Type 0 where
  pub recorded : IsRecorded words tells run
  pub ended : run.end ≡ Some end.Script
  pub printed : Receives out (printed_of run)
  pub noted : Receives notes (noted_of run)

-- the sinks have received first parts of what the run puts
pub record IsPartly (words : List (List ℕ)) (tells : List ℕ → Told) (out notes : Taken) (run : RunRecord) : Type 0 where
  pub recorded : IsRecorded words tells run
  pub printed : ReceivesPart out (printed_of run)
  pub noted : ReceivesPart notes (noted_of run)

-- one of the sinks failed
pub record IsWriteFault (words : List (List ℕ)) (tells : List ℕ → Told) (out notes : Taken) (run : RunRecord) : Type 0 where
  pub failed : HasFailed out ⊎ HasFailed notes
  pub partly : IsPartly words tells out notes run

-- the plan was only checked, and `out` has received exactly its cost
pub record IsChecked (words : List (List ℕ)) (tells : List ℕ → Told) (out notes : Taken) : Type 0 where
  pub checks : purpose_asked words ≡ Some purpose.Check
  pub cost : ℕ
  pub checked : IsCheckedPlan words tells cost
  pub printed : Receives out (valid_line cost)
  pub noted : IsSilent notes

-- the plan was only checked, but `out` failed within its cost
pub record IsCheckCut (words : List (List ℕ)) (tells : List ℕ → Told) (out notes : Taken) : Type 0 where
  pub checks : purpose_asked words ≡ Some purpose.Check
  pub cost : ℕ
  pub checked : IsCheckedPlan words tells cost
  pub printed : IsCut out (valid_line cost)
  pub noted : IsSilent notes

-- all was done: a script was run, or a plan was checked, deordered or improved, that of generated errands too
abbrev pub IsAllDone : List (List ℕ) → (List ℕ → Told) → Taken → Taken → Option RunRecord → Type 0
IsAllDone words tells out notes None = IsChecked words tells out notes
IsAllDone words tells out notes (Some run) = IsDone words tells out notes run ⊎ IsTreeTold words tells out notes run ⊎ IsImproveDone words tells out notes run ⊎ IsBenchDone words out notes run

-- a write failed: within a run, within the cost of a plan, within the text of a tree, or within a summary
abbrev pub HasWriteFault : List (List ℕ) → (List ℕ → Told) → Taken → Taken → Option RunRecord → Type 0
HasWriteFault words tells out notes None = IsCheckCut words tells out notes
HasWriteFault words tells out notes (Some run) =
    IsWriteFault words tells out notes run ⊎ IsTreeCut words tells out notes run ⊎ IsImproveCut words tells out notes run ⊎ IsBenchCut words out notes run

-- memory was wanting: the run was kept, or nothing was put
abbrev pub IsOutOfMemory : List (List ℕ) → (List ℕ → Told) → Taken → Taken → Option RunRecord → Type 0
IsOutOfMemory words tells out notes None = IsSilent out × IsSilent notes
IsOutOfMemory words tells out notes (Some run) =
    IsPartly words tells out notes run ⊎ IsTreeUntold words tells out notes run ⊎ IsImprovePart words tells out notes run ⊎ IsBenchUntold words out notes run

-- the words and the texts lead to a refusal: nothing was put to `out`, its line to `notes`, or a first part of it where that failed, and there is no run
pub record IsRefused (words : List (List ℕ)) (tells : List ℕ → Told) (c : Counts) (out notes : Taken) (why : Status) (run : Option RunRecord) : Type 0 where
  pub line : List ℕ
  pub refusal : IsRefusal words tells c why line
  pub nothing : IsSilent out
  pub noted : Receives notes line ⊎ IsCut notes line
  pub no_run : run ≡ None

-- how a run ends
abbrev pub Ends : List (List ℕ) → (List ℕ → Told) → Counts → Taken → Taken → Status → Option RunRecord → Type 0
Ends words tells c out notes status.Done run = IsAllDone words tells out notes run
Ends words tells c out notes status.WriteFault run = HasWriteFault words tells out notes run
Ends words tells c out notes status.NoMemory run = IsOutOfMemory words tells out notes run
Ends words tells c out notes why run = IsRefused words tells c out notes why run

-- what the run of a list of offers on a core ends with
abbrev pub Replays : CoreView → List Offer → Taken → Taken → Status → Option RunRecord → Type 0
Replays core offers out notes status.Done (Some run) = IsRunOf core offers run × (run.end ≡ Some end.Script) × Receives out (printed_of run) × Receives notes (noted_of run)
Replays core offers out notes status.WriteFault (Some run) = IsRunOf core offers run × (HasFailed out ⊎ HasFailed notes) × ReceivesPart out (printed_of run) × ReceivesPart notes (noted_of run)
Replays core offers out notes status.NoMemory (Some run) = IsRunOf core offers run × ReceivesPart out (printed_of run) × ReceivesPart notes (noted_of run)
Replays core offers out notes status.NoMemory None = IsSilent out × IsSilent notes
Replays core offers out notes other run = ⊥

-- what the putting of a valid plan's cost ends with
abbrev pub Checks : ℕ → Taken → Status → Option RunRecord → Type 0
Checks cost out status.Done None = Receives out (valid_line cost)
Checks cost out status.WriteFault None = IsCut out (valid_line cost)
Checks cost out status.NoMemory None = IsSilent out
Checks cost out other run = ⊥

abbrev pub status_of : Stop → Status
status_of stop.WriteFault = status.WriteFault
status_of stop.NoMemory = status.NoMemory

-- what a put that ends a command ends it with
abbrev pub status_by : Result (Unit {0}) Stop → Status
status_by (Ok done) = status.Done
status_by (Err why) = status_of why

-- the summary of a run was put where every offer was made, or a sink failed, or memory was wanting; the run is kept
abbrev pub Finishes : Result (Unit {0}) Stop → RunRecord → Taken → Status → Option RunRecord → Type 0
Finishes (Ok all) run out status.Done ended = (ended ≡ Some run) × Receives out (summary_of run)
Finishes (Ok all) run out status.WriteFault ended = (ended ≡ Some run) × IsCut out (summary_of run)
Finishes (Ok all) run out status.NoMemory ended = (ended ≡ Some run) × IsSilent out
Finishes (Err stop.WriteFault) run out status.WriteFault ended = (ended ≡ Some run) × IsSilent out
Finishes (Err stop.NoMemory) run out status.NoMemory ended = (ended ≡ Some run) × IsSilent out
Finishes made run out other ended = ⊥

-- the words name a script whose text is told: it has at most 16 MiB and spells a script within the limits, whose plan is valid and
-- whose start tree, where it has one, is sound
pub record IsGood (words : List (List ℕ)) (tells : List ℕ → Told) (script : Script) : Type 0 where
  pub name : List ℕ
  pub named : script_named words ≡ Some name
  pub read : List ℕ
  pub told : tells name ≡ text read
  pub short : length read ≤ 16_777_216
  pub spelled : SpellsScript read script
  pub within : over_of script ≡ None
  pub valid : IsValid script.task script.plan
  pub starts : (root : Node) → script.start ≡ Some root → IsSound script.task root

-- the words name three texts, and these are their texts as they are told
pub record AreNamedTexts (words : List (List ℕ)) (tells : List ℕ → Told) (domain problem plan : List ℕ) : Type 0 where
  pub names : TextNames
  pub named : texts_named words ≡ Some names
  pub domain_told : tells names.domain ≡ text domain
  pub problem_told : tells names.problem ≡ text problem
  pub plan_told : tells names.plan ≡ text plan

-- the words name three texts that are told: each has at most 16 MiB, and they give a task and a valid plan
pub record IsGoodPlan (words : List (List ℕ)) (tells : List ℕ → Told) (domain problem plan : List ℕ) : Type 0 where
  pub told : AreNamedTexts words tells domain problem plan
  pub short_domain : length domain ≤ 16_777_216
  pub short_problem : length problem ≤ 16_777_216
  pub short_plan : length plan ≤ 16_777_216
  pub task : TaskView
  pub list : List ℕ
  pub valid : IsValidPlan domain problem plan task list

-- the count of faults didn't rise
abbrev pub IsFaultless : ℕ → ℕ → Type 0
IsFaultless before after = Rose before after → ⊥

-- the run was done, or memory was wanting
abbrev pub IsDoneOrNoMemory : Status → Type 0
IsDoneOrNoMemory status.Done = Unit {0}
IsDoneOrNoMemory status.NoMemory = Unit {0}
IsDoneOrNoMemory other = ⊥

-- the statuses that the words and the texts alone decide
abbrev pub IsDecided : Status → Type 0
IsDecided status.Done = Unit {0}
IsDecided (status.PlanInvalid broken) = Unit {0}
IsDecided status.Usage = Unit {0}
IsDecided (status.TextRefused file place cause) = Unit {0}
IsDecided other = ⊥

-- the words name a script, and this is its text as it is told
pub record IsNamedText (words : List (List ℕ)) (tells : List ℕ → Told) (t : List ℕ) : Type 0 where
  pub name : List ℕ
  pub named : script_named words ≡ Some name
  pub told : tells name ≡ text t

-- the text spells a script that is ready to run
pub record IsRunText (t : List ℕ) : Type 0 where
  pub script : Script
  pub ready : IsReadyText t script

-- the text is refused so
pub record IsRefusedText (t : List ℕ) (why : Status) : Type 0 where
  pub line : List ℕ
  pub refusal : IsTextRefusal t why line

-- the texts give a task and a valid plan
pub record HasValidPlan (domain problem plan : List ℕ) : Type 0 where
  pub task : TaskView
  pub list : List ℕ
  pub valid : IsValidPlan domain problem plan task list

-- the texts give a task and a plan whose first break is this
pub record BreaksFirst (domain problem plan : List ℕ) (b : Broken) : Type 0 where
  pub task : TaskView
  pub leads : outcome domain problem plan ≡ inputs.Broken task b

-- this is the first fault of one of the texts, in the order in which they are judged
pub record IsFirstFault (domain problem plan : List ℕ) (file : File) (place : ℕ) (cause : Cause) : Type 0 where
  pub part : Part
  pub of_part : file ≡ file_by part
  pub leads : outcome domain problem plan ≡ inputs.Refused part place cause

-- Of a script's text that is told: done comes where it is ready to run, and each refusal of a plan or a text where that is its refusal.
pub record IsExactRun (words : List (List ℕ)) (tells : List ℕ → Told) (why : Status) : Type 0 where
  pub done : (t : List ℕ) → IsNamedText words tells t → (why ≡ status.Done) ↔ IsRunText t
  pub invalid : (t : List ℕ) → IsNamedText words tells t → (b : Broken) → (why ≡ status.PlanInvalid b) ↔ IsRefusedText t (status.PlanInvalid b)
  pub refused : (t : List ℕ) → IsNamedText words tells t → (file : File) (place : ℕ) (cause : Cause) →
      (why ≡ status.TextRefused file place cause) ↔ IsRefusedText t (status.TextRefused file place cause)

-- Of three texts: done comes where they give a valid plan, and each refusal where it is the first.
pub record IsExactFor (domain problem plan : List ℕ) (why : Status) : Type 0 where
  pub done : (why ≡ status.Done) ↔ HasValidPlan domain problem plan
  pub invalid : (b : Broken) → (why ≡ status.PlanInvalid b) ↔ BreaksFirst domain problem plan b
  pub refused : (file : File) (place : ℕ) (cause : Cause) → (why ≡ status.TextRefused file place cause) ↔ IsFirstFault domain problem plan file place cause

-- of the texts that the words name, as they are told
abbrev pub IsExactCheck : List (List ℕ) → (List ℕ → Told) → Status → Type 0
IsExactCheck words tells why = (domain problem plan : List ℕ) → AreNamedTexts words tells domain problem plan → IsExactFor domain problem plan why

-- of the generated texts of as many errands as the words ask for
abbrev pub IsExactBench : List (List ℕ) → Status → Type 0
IsExactBench words why = (size : ℕ) → errands_asked words ≡ Some size → IsExactFor DOMAIN.now (problem_of size) (plan_of size) why

-- each status that the words and the texts decide comes exactly where its cause stands; usage where the words name no texts and ask for no errands
pub record IsExact (words : List (List ℕ)) (tells : List ℕ → Told) (why : Status) : Type 0 where
  pub usage : (why ≡ status.Usage) ↔ ((script_named words ≡ None) × (texts_named words ≡ None) × (errands_asked words ≡ None))
  pub run : IsExactRun words tells why
  pub check : IsExactCheck words tells why
  pub bench : IsExactBench words why

-- a fact that one of the replies tells is one of so many
abbrev pub AreTold : ℕ → List (Result ℕ Refusal) → Type 0
AreTold facts [] = Unit {0}
AreTold facts (reply ∷ replies) = IsTold facts reply × AreTold facts replies

-- each text of the run may be asked for: that of its start tree, of its tree and of the tree at each place, and of each reply
pub record IsUsable (run : RunRecord) : Type 0 where
  pub start : IsPrintable run.task run.start
  pub tree : IsPrintable run.task run.tree
  pub trees : (place : ℕ) → IsPrintable run.task (replay (opened run.start) (take place run.history)).tree
  pub told : AreTold (length run.task.facts) run.replies
