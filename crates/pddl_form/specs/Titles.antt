-- What domains and problems begin with, and sections that come once.
use Rattle.std.specs.Prelude.{ℕ, List, [], ◌∷◌, Option, Some, None, Result, Ok, Err, codes}
use Rattle.std.specs.Str.{bytes_eq}
use Rattle.bd_base.specs.declared.text_err.Cause.TheVariants as cause
use Rattle.pddl_lex.specs.declared.sexp.Sexp.{Sexp}
use Rattle.pddl_form.specs.Fault.{Fault, ◌>>=◌}
use Rattle.pddl_form.specs.Trees.{Named, word_at, name_at, Headed, head_at, end_at, first_at, begins, unless_odd, must}

-- the section, where none like it came before
abbrev pub once : Headed → Option Headed → Result (Option Headed) Fault
once h None = Ok (Some h)
once h (Some other) = Err (h.head.0, cause.Clash h.head.1)

abbrev pub requirement_at : Sexp → Result Named Fault
requirement_at tree = word_at tree >>= λ w. unless_odd (begins 58 w.1) w

-- requirements have no effect
abbrev pub requirements_at : List Sexp → Result (Unit {0}) Fault
requirements_at [] = Ok tt
requirements_at (x ∷ xs) = requirement_at x >>= λ w. requirements_at xs

-- the title: the kind of text and one name
abbrev pub title_at : List ℕ → Sexp → Result (Unit {0}) Fault
title_at kind tree = do
  title ← head_at tree
  key ← must (bytes_eq title.head.1 kind) title.head.0
  first ← first_at title.place title.items
  name ← name_at first.0
  end_at first.1

-- what stands behind `define` and the title
unfoldable pub body_at : List ℕ → Headed → Result (List Sexp) Fault
body_at kind whole = do
  key ← must (bytes_eq whole.head.1 (codes "define")) whole.head.0
  first ← first_at whole.place whole.items
  title ← title_at kind first.0
  Ok first.1
