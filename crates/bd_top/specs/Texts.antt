-- The lines that tell of words, of a plan and of texts, byte for byte.
use Rattle.std.specs.Prelude.{ℕ, Bool, true, false, List, ◌++◌, codes, decimal}
use Rattle.bd_base.specs.declared.text_err.Cause.{Cause}
use Rattle.bd_base.specs.declared.text_err.Cause.TheVariants as cause
use Rattle.bd_base.specs.declared.text_err.Limit.{Limit}
use Rattle.bd_base.specs.declared.text_err.Limit.TheVariants as limit
use Rattle.bd_task.specs.TaskView.{TaskView}
use Rattle.bd_task.specs.Valid.{Break, step_lacks, goal_lacks}
use Rattle.run_texts.specs.Texts.{newline, counted, shown_fact}
use Rattle.bd_top.specs.declared.status.File.{File}
use Rattle.bd_top.specs.declared.status.File.TheVariants as file

-- the cost of a valid plan
abbrev pub valid_line : ℕ → List ℕ
valid_line cost = counted (codes "valid cost ") cost

-- why a list is no plan
abbrev pub invalid_line : TaskView → Break → List ℕ
invalid_line task (step_lacks place f) = codes "plan invalid: step " ++ decimal place ++ codes " needs " ++ shown_fact task f ++ newline
invalid_line task (goal_lacks f) = codes "plan invalid: goal " ++ shown_fact task f ++ newline

abbrev pub with_word : List ℕ → List ℕ → List ℕ
with_word name word = name ++ codes " " ++ word

-- a cause by its name, with its word where it has one
abbrev pub cause_text : Cause → List ℕ
cause_text cause.Bad = codes "Bad"
cause_text cause.Unclosed = codes "Unclosed"
cause_text cause.Extra = codes "Extra"
cause_text cause.TooDeep = codes "TooDeep"
cause_text cause.Shape = codes "Shape"
cause_text (cause.Unsupported word) = with_word (codes "Unsupported") word
cause_text (cause.Unknown word) = with_word (codes "Unknown") word
cause_text (cause.Clash word) = with_word (codes "Clash") word
cause_text (cause.Missing word) = with_word (codes "Missing") word
cause_text (cause.Arity word) = with_word (codes "Arity") word
cause_text (cause.BadNumber word) = with_word (codes "BadNumber") word
cause_text cause.NoAction = codes "NoAction"
cause_text cause.NoCost = codes "NoCost"
cause_text cause.Misfit = codes "Misfit"
cause_text cause.Unsound = codes "Unsound"

abbrev pub file_text : File → List ℕ
file_text file.Domain = codes "domain"
file_text file.Problem = codes "problem"
file_text file.Plan = codes "plan"
file_text file.Script = codes "script"

-- why a text is none of its format
abbrev pub refused_line : File → ℕ → Cause → List ℕ
refused_line f place c = file_text f ++ codes ": " ++ decimal place ++ codes ": " ++ cause_text c ++ newline

abbrev pub limit_text : Limit → List ℕ
limit_text limit.Text = codes "text"
limit_text limit.Parameters = codes "parameters"
limit_text limit.Objects = codes "objects"
limit_text limit.Facts = codes "facts"
limit_text limit.Actions = codes "actions"
limit_text limit.Steps = codes "steps"
limit_text limit.Offers = codes "offers"

-- which count passes its limit
abbrev pub over_line : Limit → ℕ → List ℕ
over_line l count = codes "over limit: " ++ limit_text l ++ codes " " ++ decimal count ++ newline

abbrev pub unread_text : Bool → List ℕ
unread_text true = codes "missing"
unread_text false = codes "cannot read"

-- which text couldn't be read
abbrev pub unread_line : List ℕ → Bool → List ℕ
unread_line name missing = name ++ codes ": " ++ unread_text missing ++ newline
