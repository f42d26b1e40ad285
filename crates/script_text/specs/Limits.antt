-- The counts of a script and their limits, and what the reader answers.
use Rattle.std.specs.Prelude.{◌≡◌, ℕ, List, cond, nat_lt, length, Option, Some, None, Result, Ok, Err}
use Rattle.bd_base.specs.declared.text_err.Limit.{Limit}
use Rattle.bd_base.specs.declared.text_err.Limit.TheVariants as limits
use Rattle.bd_base.specs.declared.text_err.TextErr.{TextErr}
use Rattle.bd_base.specs.declared.text_err.TextErr.TheVariants as errors
use Rattle.script_text.specs.declared.script.Script.{Script}
use Rattle.script_text.specs.Reading.{Fault}
use Rattle.script_text.specs.Spells.{SpellsScript}

-- the first count that passes its limit, and the limit plus one
abbrev pub over_of : Script → Option (Limit × ℕ)
over_of s = cond (nat_lt 262_144 (length s.task.facts)) (Some (limits.Facts, 262_145)) (cond (nat_lt 1_000_000 (length s.task.actions)) (Some (limits.Actions, 1_000_001)) (cond (nat_lt 2_000 (length s.plan)) (Some (limits.Steps, 2_001)) (cond (nat_lt 1_000_000 (length s.offers)) (Some (limits.Offers, 1_000_001)) None)))

-- The answer is what is read within the limits, the first limit that is passed, or the first fault,
-- unless memory ran out.
abbrev pub Answers : Result Script TextErr → Result Script Fault → Type 0
Answers (Ok s) read = (read ≡ Ok s) × (over_of s ≡ None)
Answers (Err errors.NoMemory) read = Unit {0}
Answers (Err (errors.Over limit count)) read = (s : Script) × (read ≡ Ok s) × (over_of s ≡ Some (limit, count))
Answers (Err (errors.At place cause)) read = read ≡ Err (place, cause)

-- The same by what the text spells: a script within the limits, one beyond them, or none.
abbrev pub Spelled : List ℕ → Result Script TextErr → Type 0
Spelled text (Ok s) = SpellsScript text s × (over_of s ≡ None)
Spelled text (Err errors.NoMemory) = Unit {0}
Spelled text (Err (errors.Over limit count)) = (s : Script) × SpellsScript text s × (over_of s ≡ Some (limit, count))
Spelled text (Err (errors.At place cause)) = (s : Script) → SpellsScript text s → ⊥
