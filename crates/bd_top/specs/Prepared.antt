-- What the words and the texts that they name lead to: a script that is ready to run, or a refusal with its line.
use Rattle.std.specs.Prelude.{◌≡◌, ◌⊎◌, ℕ, ◌<◌, ◌≤◌, Bool, true, false, All, List, length, Some, None, Err, unwrap_or}
use Rattle.bd_base.specs.Shelf.{Told}
use Rattle.bd_base.specs.declared.text_err.Cause.{Cause}
use Rattle.bd_base.specs.declared.text_err.Cause.TheVariants as causes
use Rattle.bd_base.specs.declared.text_err.Limit.{Limit}
use Rattle.bd_base.specs.declared.text_err.Limit.TheVariants as limit
use Rattle.bd_task.specs.TaskView.{TaskView}
use Rattle.bd_task.specs.Valid.{IsValid, Break, step_lacks, goal_lacks, first_break}
use Rattle.bd_tree.specs.declared.node.Node.{Node}
use Rattle.bd_tree.specs.Chain.{chain_of}
use Rattle.bd_links.specs.Sound.{IsSound}
use Rattle.plan_core.specs.Replies.{IsLent}
use Rattle.seq_check.specs.declared.judging.Broken.{Broken}
use Rattle.seq_check.specs.declared.judging.Broken.TheVariants as broken
use Rattle.script_text.specs.declared.script.Script.{Script}
use Rattle.script_text.specs.Lines.{worded}
use Rattle.script_text.specs.Range.{StartsBy}
use Rattle.script_text.specs.Whole.{script_at}
use Rattle.script_text.specs.Spells.{SpellsScript}
use Rattle.script_text.specs.Limits.{over_of}
use Rattle.task_inputs.specs.declared.answers.Part.{Part}
use Rattle.task_inputs.specs.declared.answers.Part.TheVariants as part
use Rattle.task_inputs.specs.declared.answers.Inputs.{Inputs}
use Rattle.task_inputs.specs.declared.answers.Inputs.TheVariants as inputs
use Rattle.task_inputs.specs.Inputs.{LeadsTo}
use Rattle.task_inputs.specs.Reads.{Counts, IsUnread, IsLong, WasRead}
use Rattle.bd_top.specs.declared.usage.TheConstants.{USAGE}
use Rattle.bd_top.specs.declared.status.File.{File}
use Rattle.bd_top.specs.declared.prepare.Prepared.{Prepared}
use Rattle.bd_top.specs.declared.prepare.Prepared.TheVariants as prepared
use Rattle.bd_top.specs.declared.status.File.TheVariants as file
use Rattle.bd_top.specs.declared.status.Status.{Status}
use Rattle.bd_top.specs.declared.status.Status.TheVariants as status
use Rattle.bd_top.specs.Texts.{invalid_line, refused_line, over_line, unread_line}
use Rattle.command_words.specs.Range.{AreNumbersInRange, IsFrom1To}
use Rattle.bd_top.specs.declared.purpose.Purpose.{Purpose}
use Rattle.bd_top.specs.declared.purpose.Purpose.TheVariants as purpose
use Rattle.bd_top.specs.Plans.{IsErrandsPlan, errands_outcome}
use Rattle.bd_top.specs.Words.{errands_asked, purpose_asked, script_named, texts_named}
use Rattle.command_words.specs.Asked.{Names as TextNames}

-- the tree that a script starts from: its own, where it has one, else the chain of its plan
abbrev pub start_of : Script → Node
start_of script = unwrap_or script.start (chain_of script.plan)

-- what a reader promises of a script: the plan's actions are the task's, there are few of them, a core may open on the start tree,
-- which lists the plan, the core may close, and there are few offers with few actions each
pub record IsBounded (script : Script) : Type 0 where
  pub in_range : All (λ a. a < length script.task.actions) script.plan
  pub few : length script.plan ≤ 2_000
  pub starts : StartsBy (length script.task.actions) 16_777_216 script.plan script.start
  pub stops : (0 < script.stop) × (script.stop ≤ 1_000_000)
  pub few_offers : length script.offers ≤ 1_000_000
  pub lent : All IsLent script.offers

-- what a run asks of a script
pub record IsRunnable (script : Script) : Type 0 where
  pub bounded : IsBounded script
  pub valid : IsValid script.task script.plan
  pub sound : IsSound script.task (start_of script)

-- the text spells a script within the limits, whose plan is valid and whose start tree is sound
pub record IsReadyText (t : List ℕ) (script : Script) : Type 0 where
  pub spelled : SpellsScript t script
  pub within : over_of script ≡ None
  pub runs : IsRunnable script

-- the text spells a script within the limits, and this is the first break of its plan
pub record IsBroken (t : List ℕ) (break : Break) (line : List ℕ) : Type 0 where
  pub script : Script
  pub spelled : SpellsScript t script
  pub within : over_of script ≡ None
  pub invalid : IsValid script.task script.plan → ⊥
  pub first : first_break script.task script.plan ≡ Some break
  pub noted : line ≡ invalid_line script.task break

-- the text spells a script, and this count of it is the first that passes its limit
pub record IsOver (t : List ℕ) (l : Limit) (count : ℕ) (line : List ℕ) : Type 0 where
  pub script : Script
  pub spelled : SpellsScript t script
  pub over : over_of script ≡ Some (l, count)
  pub noted : line ≡ over_line l count

-- the text spells no script, and this is its first cause, at its line
pub record IsNoScript (t : List ℕ) (place : ℕ) (cause : Cause) (line : List ℕ) : Type 0 where
  pub none : (script : Script) → SpellsScript t script → ⊥
  pub first : script_at (worded t) ≡ Err (place, cause)
  pub noted : line ≡ refused_line file.Script place cause

-- the script has a start tree of its own, which isn't sound
pub record HasUnsoundStart (script : Script) : Type 0 where
  pub root : Node
  pub starts : script.start ≡ Some root
  pub unsound : IsSound script.task root → ⊥

-- the plan is valid, but the script's start tree isn't sound, which is told at its line
pub record FailsAtStart (script : Script) (place : ℕ) (cause : Cause) : Type 0 where
  pub valid : IsValid script.task script.plan
  pub start : HasUnsoundStart script
  pub told : cause ≡ causes.Unsound
  pub at : place ≡ script.start_line

-- the text spells a script within the limits, which fails at its start tree
pub record IsUnsoundStart (t : List ℕ) (place : ℕ) (cause : Cause) (line : List ℕ) : Type 0 where
  pub script : Script
  pub spelled : SpellsScript t script
  pub within : over_of script ≡ None
  pub fails : FailsAtStart script place cause
  pub noted : line ≡ refused_line file.Script place cause

-- why a text is refused, and the line that says so
abbrev pub IsTextRefusal : List ℕ → Status → List ℕ → Type 0
IsTextRefusal t (status.PlanInvalid (broken.Step at f)) line = IsBroken t (step_lacks at f) line
IsTextRefusal t (status.PlanInvalid (broken.Goal f)) line = IsBroken t (goal_lacks f) line
IsTextRefusal t (status.TextRefused file.Script place cause) line = IsNoScript t place cause line ⊎ IsUnsoundStart t place cause line
IsTextRefusal t (status.OverLimit l count) line = IsOver t l count line
IsTextRefusal t other line = ⊥

-- the fact that a break tells is one of so many
abbrev pub HasFact : ℕ → Broken → Type 0
HasFact facts (broken.Step at f) = f < facts
HasFact facts (broken.Goal f) = f < facts
HasFact facts broken.NoMemory = Unit {0}

-- the plan isn't valid, and this is its first break, or memory was wanting
abbrev pub IsFirstBreak : Script → Broken → Type 0
IsFirstBreak script (broken.Step at f) = (IsValid script.task script.plan → ⊥) × (first_break script.task script.plan ≡ Some (step_lacks at f))
IsFirstBreak script (broken.Goal f) = (IsValid script.task script.plan → ⊥) × (first_break script.task script.plan ≡ Some (goal_lacks f))
IsFirstBreak script broken.NoMemory = Unit {0}

-- whether the tree that the script starts from is sound
abbrev pub JudgesStart : Script → Bool → Type 0
JudgesStart script true = IsSound script.task (start_of script)
JudgesStart script false = HasUnsoundStart script

-- why the script of a name is refused, by what the shelf tells of it
abbrev pub IsNamedRefusal : List ℕ → Told → Counts → Status → List ℕ → Type 0
IsNamedRefusal name told c (status.ReadFault n missing) line = (n ≡ name) × (line ≡ unread_line name missing) × IsUnread told c missing
IsNamedRefusal name told c (status.OverLimit limit.Text count) line = (count ≡ 16_777_217) × (line ≡ over_line limit.Text count) × IsLong told c
IsNamedRefusal name told c other line = WasRead told (λ t. IsTextRefusal t other line)

-- the words name a script, of which P holds
pub record Names (words : List (List ℕ)) (P : List ℕ → Type 0) : Type 0 where
  pub name : List ℕ
  pub named : script_named words ≡ Some name
  pub holds : P name

-- the words name three texts, of which P holds
pub record NamesTexts (words : List (List ℕ)) (P : TextNames → Type 0) : Type 0 where
  pub names : TextNames
  pub named : texts_named words ≡ Some names
  pub holds : P names

-- the words ask for so many errands, from 1 to 600, of which P holds
pub record AsksErrands (words : List (List ℕ)) (P : ℕ → Type 0) : Type 0 where
  pub size : ℕ
  pub asked : errands_asked words ≡ Some size
  pub few : IsFrom1To 600 size
  pub holds : P size

-- what the texts that a shelf tells lead to
abbrev pub TextsLead : TextNames → (List ℕ → Told) → Counts → Inputs → Type 0
TextsLead names tells c result = LeadsTo (tells names.domain) (tells names.problem) (tells names.plan) c result

abbrev pub file_by : Part → File
file_by part.Domain = file.Domain
file_by part.Problem = file.Problem
file_by part.Plan = file.Plan

abbrev pub name_by : TextNames → Part → List ℕ
name_by names part.Domain = names.domain
name_by names part.Problem = names.problem
name_by names part.Plan = names.plan

-- the line for a plan that breaks so
abbrev pub IsBrokenLine : TaskView → Broken → List ℕ → Type 0
IsBrokenLine task (broken.Step at f) line = line ≡ invalid_line task (step_lacks at f)
IsBrokenLine task (broken.Goal f) line = line ≡ invalid_line task (goal_lacks f)
IsBrokenLine task broken.NoMemory line = ⊥

-- the status and the line that tell of what texts lead to
abbrev pub Tells : TextNames → Inputs → Status → List ℕ → Type 0
Tells names (inputs.Unread p missing) why line = (why ≡ status.ReadFault (name_by names p) missing) × (line ≡ unread_line (name_by names p) missing)
Tells names (inputs.Refused p place cause) why line = (why ≡ status.TextRefused (file_by p) place cause) × (line ≡ refused_line (file_by p) place cause)
Tells names (inputs.Over l count) why line = (why ≡ status.OverLimit l count) × (line ≡ over_line l count)
Tells names (inputs.Broken task b) why line = (why ≡ status.PlanInvalid b) × IsBrokenLine task b line
Tells names (inputs.Ready task plan cost) why line = ⊥
Tells names inputs.NoMemory why line = ⊥

-- the texts lead to something that is told so
pub record IsTextsRefusal (names : TextNames) (tells : List ℕ → Told) (c : Counts) (why : Status) (line : List ℕ) : Type 0 where
  pub result : Inputs
  pub leads : TextsLead names tells c result
  pub told : Tells names result why line

-- the generated texts of so many errands lead to something that is told so
pub record IsErrandsRefusal (size : ℕ) (why : Status) (line : List ℕ) : Type 0 where
  pub result : Inputs
  pub leads : errands_outcome size ≡ result
  pub names : TextNames
  pub told : Tells names result why line

-- the words name texts that lead to a ready plan of this cost
pub record LeadToPlan (names : TextNames) (tells : List ℕ → Told) (c : Counts) (cost : ℕ) : Type 0 where
  pub task : TaskView
  pub plan : List ℕ
  pub leads : TextsLead names tells c (inputs.Ready task plan cost)

-- the words name texts that lead to this plan of this task
pub record LeadToTask (names : TextNames) (tells : List ℕ → Told) (c : Counts) (task : TaskView) (plan : List ℕ) : Type 0 where
  pub cost : ℕ
  pub leads : TextsLead names tells c (inputs.Ready task plan cost)

-- why a run is refused, and the line that says so
abbrev pub IsRefusal : List (List ℕ) → (List ℕ → Told) → Counts → Status → List ℕ → Type 0
IsRefusal words tells c status.Usage line = (script_named words ≡ None) × (texts_named words ≡ None) × (errands_asked words ≡ None) × (line ≡ USAGE.now)
IsRefusal words tells c other line =
    Names words (λ name. IsNamedRefusal name (tells name) c other line) ⊎ NamesTexts words (λ names. IsTextsRefusal names tells c other line)
    ⊎ AsksErrands words (λ size. IsErrandsRefusal size other line)

-- the words name a script that is ready to run
abbrev pub IsReady : List (List ℕ) → (List ℕ → Told) → Script → Type 0
IsReady words tells script = Names words (λ name. WasRead (tells name) (λ t. IsReadyText t script))

-- what is prepared of a script whose plan is in range
abbrev pub PreparesScript : Script → Prepared → Type 0
PreparesScript script (prepared.Ready same) = (same ≡ script) × IsRunnable script
PreparesScript script (prepared.Refused (status.PlanInvalid (broken.Step at f)) line) =
    IsFirstBreak script (broken.Step at f) × (line ≡ invalid_line script.task (step_lacks at f))
PreparesScript script (prepared.Refused (status.PlanInvalid (broken.Goal f)) line) =
    IsFirstBreak script (broken.Goal f) × (line ≡ invalid_line script.task (goal_lacks f))
PreparesScript script (prepared.Refused (status.TextRefused file.Script place cause) line) = FailsAtStart script place cause × (line ≡ refused_line file.Script place cause)
PreparesScript script (prepared.Refused other line) = ⊥
PreparesScript script (prepared.Valid cost) = ⊥
PreparesScript script (prepared.Plan task plan span) = ⊥
PreparesScript script (prepared.Improvable task plan numbers) = ⊥
PreparesScript script (prepared.Errands task plan) = ⊥
PreparesScript script prepared.NoMemory = Unit {0}

-- what is prepared is what there is; want of memory is free
abbrev pub PreparesText : List ℕ → Prepared → Type 0
PreparesText t (prepared.Ready script) = IsReadyText t script
PreparesText t (prepared.Refused why line) = IsTextRefusal t why line
PreparesText t (prepared.Valid cost) = ⊥
PreparesText t (prepared.Plan task plan span) = ⊥
PreparesText t (prepared.Improvable task plan numbers) = ⊥
PreparesText t (prepared.Errands task plan) = ⊥
PreparesText t prepared.NoMemory = Unit {0}

abbrev pub PreparesNamed : List ℕ → Told → Counts → Prepared → Type 0
PreparesNamed name told c (prepared.Ready script) = WasRead told (λ t. IsReadyText t script)
PreparesNamed name told c (prepared.Refused why line) = IsNamedRefusal name told c why line
PreparesNamed name told c (prepared.Valid cost) = ⊥
PreparesNamed name told c (prepared.Plan task plan span) = ⊥
PreparesNamed name told c (prepared.Improvable task plan numbers) = ⊥
PreparesNamed name told c (prepared.Errands task plan) = ⊥
PreparesNamed name told c prepared.NoMemory = Unit {0}

-- what is prepared of three texts, whose plan is there for a purpose
abbrev pub PreparesTexts : Purpose → TextNames → (List ℕ → Told) → Counts → Prepared → Type 0
PreparesTexts aim names tells c (prepared.Ready script) = ⊥
PreparesTexts aim names tells c (prepared.Valid cost) = (aim ≡ purpose.Check) × LeadToPlan names tells c cost
PreparesTexts aim names tells c (prepared.Plan task plan span) = (aim ≡ purpose.Deorder span) × LeadToTask names tells c task plan
PreparesTexts aim names tells c (prepared.Improvable task plan numbers) = (aim ≡ purpose.Improve numbers) × LeadToTask names tells c task plan
PreparesTexts aim names tells c (prepared.Errands task plan) = ⊥
PreparesTexts aim names tells c (prepared.Refused why line) = IsTextsRefusal names tells c why line
PreparesTexts aim names tells c prepared.NoMemory = Unit {0}

-- what is prepared of what texts lead to
abbrev pub IsPreparedOf : Purpose → TextNames → Inputs → Prepared → Type 0
IsPreparedOf aim names (inputs.Ready task plan cost) (prepared.Valid same) = (aim ≡ purpose.Check) × (same ≡ cost)
IsPreparedOf aim names (inputs.Ready task plan cost) (prepared.Plan t list span) = (aim ≡ purpose.Deorder span) × (t ≡ task) × (list ≡ plan)
IsPreparedOf aim names (inputs.Ready task plan cost) (prepared.Improvable t list numbers) = (aim ≡ purpose.Improve numbers) × (t ≡ task) × (list ≡ plan)
IsPreparedOf aim names result (prepared.Refused why line) = Tells names result why line
IsPreparedOf aim names result prepared.NoMemory = Unit {0}
IsPreparedOf aim names result other = ⊥

-- what is prepared of the generated texts of so many errands
abbrev pub PreparesErrands : ℕ → Prepared → Type 0
PreparesErrands size (prepared.Errands task plan) = IsErrandsPlan size task plan
PreparesErrands size (prepared.Refused why line) = IsErrandsRefusal size why line
PreparesErrands size prepared.NoMemory = Unit {0}
PreparesErrands size other = ⊥

-- the refusal of a text that couldn't be read
abbrev pub IsReadFault : List ℕ → Bool → Prepared → Type 0
IsReadFault name missing (prepared.Refused why line) = (why ≡ status.ReadFault name missing) × (line ≡ unread_line name missing)
IsReadFault name missing prepared.NoMemory = Unit {0}
IsReadFault name missing other = ⊥

-- the words are refused with the usage text
abbrev pub IsUsage : Prepared → Type 0
IsUsage (prepared.Refused status.Usage line) = line ≡ USAGE.now
IsUsage prepared.NoMemory = Unit {0}
IsUsage other = ⊥

abbrev pub Prepares : List (List ℕ) → (List ℕ → Told) → Counts → Prepared → Type 0
Prepares words tells c (prepared.Ready script) = IsReady words tells script
Prepares words tells c (prepared.Valid cost) = (purpose_asked words ≡ Some purpose.Check) × NamesTexts words (λ names. LeadToPlan names tells c cost)
Prepares words tells c (prepared.Plan task plan span) = (purpose_asked words ≡ Some (purpose.Deorder span)) × NamesTexts words (λ names. LeadToTask names tells c task plan)
Prepares words tells c (prepared.Improvable task plan numbers) =
    (purpose_asked words ≡ Some (purpose.Improve numbers)) × NamesTexts words (λ names. LeadToTask names tells c task plan) × AreNumbersInRange numbers
Prepares words tells c (prepared.Errands task plan) = AsksErrands words (λ size. IsErrandsPlan size task plan)
Prepares words tells c (prepared.Refused why line) = IsRefusal words tells c why line
Prepares words tells c prepared.NoMemory = Unit {0}
