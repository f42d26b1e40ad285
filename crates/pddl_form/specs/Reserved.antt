-- Heads that PDDL keeps for itself, names that are declared once, and how many items a list has.
use Rattle.std.specs.Prelude.{ℕ, ◌==◌, ◌||◌, Bool, true, false, cond, List, [], ◌∷◌, ◌++◌, Result, Ok, Err, codes, length}
use Rattle.std.specs.Str.{bytes_eq}
use Rattle.bd_base.specs.declared.text_err.Cause.TheVariants as cause
use Rattle.pddl_form.specs.Fault.{Fault}
use Rattle.pddl_form.specs.Trees.{Named, Headed}
use Rattle.pddl_form.specs.Names.{is_declared}

-- the heads of conditions, effects and expressions of PDDL, which no declared name may be where they could stand
unfoldable pub is_reserved : List ℕ → Bool
is_reserved w =
    bytes_eq w (codes "and") || bytes_eq w (codes "not") || bytes_eq w (codes "=") || bytes_eq w (codes "or") || bytes_eq w (codes "imply") || bytes_eq w (codes "forall")
    || bytes_eq w (codes "exists") || bytes_eq w (codes "when") || bytes_eq w (codes "increase") || bytes_eq w (codes "decrease") || bytes_eq w (codes "assign") || bytes_eq w (codes "scale-up")
    || bytes_eq w (codes "scale-down") || bytes_eq w (codes "preference") || bytes_eq w (codes "<") || bytes_eq w (codes ">") || bytes_eq w (codes "<=") || bytes_eq w (codes ">=")

abbrev pub unreserved : Headed → Result (Unit {0}) Fault
unreserved h = cond (is_reserved h.head.1) (Err (h.place, cause.Unsupported h.head.1)) (Ok tt)

-- the names with one more, which is none of them
abbrev pub declare_at : Named → List (List ℕ) → Result (List (List ℕ)) Fault
declare_at w names = cond (is_declared w.1 names) (Err (w.0, cause.Clash w.1)) (Ok (names ++ w.1 ∷ []))

abbrev pub unsupported : ℕ → List ℕ → Result (Unit {0}) Fault
unsupported place word = Err (place, cause.Unsupported word)

abbrev pub count_at : Headed → ℕ → Result (Unit {0}) Fault
count_at h count = cond (length h.items == count) (Ok tt) (Err (h.place, cause.Arity h.head.1))
