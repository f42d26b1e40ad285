-- The texts of a run, byte for byte.
use Rattle.std.specs.Prelude.{ℕ, ◌+◌, Bool, true, false, List, [], ◌∷◌, ◌++◌, Option, Some, None, Result, Ok, Err, codes, decimal, count_by, length, unwrap_or}
use Rattle.std.specs.List.{slice_get}
use Rattle.bd_links.specs.declared.parts.Fault.{Fault}
use Rattle.bd_links.specs.declared.parts.Fault.TheVariants as fault
use Rattle.bd_pieces.specs.declared.pieces.End.{End}
use Rattle.bd_pieces.specs.declared.pieces.End.TheVariants as end
use Rattle.bd_pieces.specs.declared.pieces.Piece.{Piece}
use Rattle.bd_pieces.specs.declared.pieces.What.{What}
use Rattle.bd_pieces.specs.declared.pieces.What.TheVariants.{Skipped, Judged}
use Rattle.bd_search.specs.declared.verdict.Kind.{Kind}
use Rattle.bd_search.specs.declared.verdict.Kind.TheVariants as kind
use Rattle.bd_task.specs.TaskView.{TaskView}
use Rattle.bd_task.specs.declared.ground.Action.{Action}
use Rattle.bd_task.specs.Valid.{cost_of}
use Rattle.bd_tree.specs.declared.node.Node.{Node}
use Rattle.bd_tree.specs.Tree.{listed_of}
use Rattle.plan_core.specs.Core.{CoreView, State, opened, applied, is_rebuild, is_replacement, is_tightening}
use Rattle.plan_core.specs.declared.offer.Offer.{Offer}
use Rattle.plan_core.specs.declared.offer.Offer.TheVariants.{Replace, Tighten, Rebuild}
use Rattle.plan_core.specs.declared.refusal.Refusal.{Refusal}
use Rattle.plan_core.specs.declared.refusal.Refusal.TheVariants as refusal
use Rattle.run_texts.specs.declared.record.RunRecord.{RunRecord}

abbrev pub newline : List ℕ
newline = 10 ∷ []

-- a number behind its title
abbrev pub numbered : List ℕ → ℕ → List ℕ
numbered title n = title ++ decimal n

-- a number's line, behind its title
abbrev pub counted : List ℕ → ℕ → List ℕ
counted title n = title ++ decimal n ++ newline

abbrev pub end_name : End → List ℕ
end_name end.Dry = codes "dry"
end_name end.Closed = codes "closed"
end_name end.Script = codes "script"
end_name end.Tight = codes "tight"

abbrev pub end_line : Option End → List ℕ
end_line None = []
end_line (Some e) = codes "; end " ++ end_name e ++ newline

-- what a search says of a window's subtask
abbrev pub is_exhausted_kind : Kind → Bool
is_exhausted_kind (kind.Found list) = false
is_exhausted_kind kind.Exhausted = true
is_exhausted_kind (kind.Spent floor nodes) = false

abbrev pub is_spent_kind : Kind → Bool
is_spent_kind (kind.Found list) = false
is_spent_kind kind.Exhausted = false
is_spent_kind (kind.Spent floor nodes) = true

abbrev pub is_found_kind : Kind → Bool
is_found_kind (kind.Found list) = true
is_found_kind kind.Exhausted = false
is_found_kind (kind.Spent floor nodes) = false

-- a window that was judged so; one that didn't stand was not judged
abbrev pub is_judged : (Kind → Bool) → What → Bool
is_judged test (Skipped found) = false
is_judged test (Judged verdict reply) = test verdict.kind

abbrev pub is_exhausted : Piece → Bool
is_exhausted piece = is_judged is_exhausted_kind piece.what

abbrev pub is_spent : Piece → Bool
is_spent piece = is_judged is_spent_kind piece.what

abbrev pub is_found : Piece → Bool
is_found piece = is_judged is_found_kind piece.what

-- how many windows the last round had, and for how many of them nothing cheaper is left, the budget was spent, or a list was found
abbrev pub windows_line : List Piece → List ℕ
windows_line pieces =
    numbered (codes "; windows ") (length pieces)
    ++ numbered (codes " exhausted ") (count_by is_exhausted pieces)
    ++ numbered (codes " spent ") (count_by is_spent pieces)
    ++ numbered (codes " long ") (count_by is_found pieces)
    ++ newline

-- a run that ended dry tells of its windows
abbrev pub windows_by : Option End → List Piece → List ℕ
windows_by (Some end.Dry) pieces = windows_line pieces
windows_by (Some end.Closed) pieces = []
windows_by (Some end.Script) pieces = []
windows_by (Some end.Tight) pieces = []
windows_by None pieces = []

-- the lines that sum a run up
abbrev pub summary_of : RunRecord → List ℕ
summary_of run =
    counted (codes "; start ") (cost_of run.task (listed_of run.start))
    ++ counted (codes "; final ") (cost_of run.task (listed_of run.tree))
    ++ counted (codes "; replacements ") (count_by is_replacement run.history)
    ++ counted (codes "; tightenings ") (count_by is_tightening run.history)
    ++ counted (codes "; rebuilds ") (count_by is_rebuild run.history)
    ++ windows_by run.end run.pieces
    ++ end_line run.end

-- what a run's end closes with: the summary, where it has an end
abbrev pub closing_by : Option End → List ℕ → List ℕ
closing_by None summary = []
closing_by (Some e) summary = summary

abbrev pub shown : List ℕ → List ℕ
shown name = codes "(" ++ name ++ codes ")"

-- a fact by its name, in parentheses
abbrev pub shown_fact : TaskView → ℕ → List ℕ
shown_fact task f = shown (unwrap_or (slice_get task.facts f) [])

abbrev pub name_by : Option Action → List ℕ
name_by None = []
name_by (Some a) = a.name

-- the actions of a list, a line each
abbrev pub plan_lines : TaskView → List ℕ → List ℕ
plan_lines task [] = []
plan_lines task (a ∷ list) = shown (name_by (slice_get task.actions a)) ++ newline ++ plan_lines task list

-- the plan that a tree lists, with its place and its cost
abbrev pub better_of : TaskView → ℕ → Node → List ℕ
better_of task place tree = counted (codes "; place ") place ++ plan_lines task (listed_of tree) ++ counted (codes "; cost = ") (cost_of task (listed_of tree))

-- what an entry puts, which led to the tree at the place: a replacement its plan, and the others nothing
abbrev pub entry_text : TaskView → ℕ → Offer → Node → List ℕ
entry_text task place (Replace window list) tree = better_of task place tree
entry_text task place (Tighten block left right) tree = []
entry_text task place (Rebuild order) tree = []

-- the better texts of a history, which follows so many entries and the state that they led to; each entry counts as a place
abbrev pub better_texts : TaskView → ℕ → State → List Offer → List ℕ
better_texts task place state [] = []
better_texts task place state (offer ∷ rest) = entry_text task (place + 1) offer (applied offer state).tree ++ better_texts task (place + 1) (applied offer state) rest

-- the better texts of a core's history
abbrev pub betters_of : CoreView → List ℕ
betters_of core = better_texts core.task 0 (opened core.start) core.history

-- why a tree isn't sound
abbrev pub fault_text : TaskView → Fault → List ℕ
fault_text task (fault.Inside block child f) = codes "Inside " ++ decimal block ++ codes " " ++ decimal child ++ codes " " ++ shown_fact task f
fault_text task (fault.Need f) = codes "Need " ++ shown_fact task f
fault_text task (fault.Goal f) = codes "Goal " ++ shown_fact task f

-- a refusal by its number, its name and its fields
abbrev pub refusal_text : TaskView → Refusal → List ℕ
refusal_text task (refusal.Closed replaced entries) = codes "1 Closed " ++ decimal replaced ++ codes " " ++ decimal entries
refusal_text task (refusal.NoAction number) = codes "2 NoAction " ++ decimal number
refusal_text task refusal.Gone = codes "3 Gone"
refusal_text task refusal.Split = codes "4 Split"
refusal_text task (refusal.NotCheaper old new) = codes "5 NotCheaper " ++ decimal old ++ codes " " ++ decimal new
refusal_text task (refusal.TooLong steps) = codes "6 TooLong " ++ decimal steps
refusal_text task (refusal.Unlinked f) = codes "7 Unlinked " ++ fault_text task f
refusal_text task refusal.Between = codes "8 Between"
refusal_text task (refusal.TooDeep depth) = codes "9 TooDeep " ++ decimal depth
refusal_text task (refusal.NoGain old new) = codes "10 NoGain " ++ decimal old ++ codes " " ++ decimal new
refusal_text task refusal.Idle = codes "11 Idle"
refusal_text task (refusal.BadOrder i j) = codes "12 BadOrder " ++ decimal i ++ codes " " ++ decimal j
refusal_text task refusal.NoMemory = []

-- why the offer with this number, from 1, is refused
abbrev pub reply_line : TaskView → ℕ → Refusal → List ℕ
reply_line task number why = codes "offer " ++ decimal number ++ codes ": refused " ++ refusal_text task why ++ newline

-- the reply texts of the refused offers, of which the first has the number
abbrev pub reply_texts : TaskView → ℕ → List (Result ℕ Refusal) → List ℕ
reply_texts task number [] = []
reply_texts task number (Ok place ∷ rest) = reply_texts task (number + 1) rest
reply_texts task number (Err why ∷ rest) = reply_line task number why ++ reply_texts task (number + 1) rest

-- what a run puts to standard output: the better texts of its history, and then the summary, where it has an end
abbrev pub printed_of : RunRecord → List ℕ
printed_of run = better_texts run.task 0 (opened run.start) run.history ++ closing_by run.end (summary_of run)

-- what the run of a script puts to standard error
abbrev pub noted_of : RunRecord → List ℕ
noted_of run = reply_texts run.task 1 run.replies
