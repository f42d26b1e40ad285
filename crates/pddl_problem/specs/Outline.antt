-- The outline of a problem: its sections, each at most once, two of which must be there.
use Rattle.std.specs.Prelude.{ℕ, cond, List, [], ◌∷◌, Option, Some, None, Result, Ok, Err, codes}
use Rattle.std.specs.Str.{bytes_eq}
use Rattle.bd_base.specs.declared.text_err.Cause.TheVariants as cause
use Rattle.pddl_lex.specs.declared.sexp.Sexp.{Sexp}
use Rattle.pddl_form.specs.Fault.{Fault, ◌>>=◌, needed}
use Rattle.pddl_form.specs.Trees.{Headed, head_at, name_at, first_at, end_at}
use Rattle.pddl_form.specs.Titles.{once, requirements_at, body_at}
use Rattle.pddl_problem.specs.declared.outline.Part.{Part}
use Rattle.pddl_problem.specs.declared.outline.Part.TheVariants as parts

pub record Outline : Type 0 where
  pub domain : Option Headed
  pub requirements : Option Headed
  pub objects : Option Headed
  pub init : Option Headed
  pub goal : Option Headed
  pub metric : Option Headed

abbrev pub no_sections : Outline
no_sections = record { domain = None; requirements = None; objects = None; init = None; goal = None; metric = None }

-- which part a section is, by its head
abbrev pub part_of : List ℕ → Option Part
part_of head =
    cond (bytes_eq head (codes ":domain")) (Some parts.Domain)
    (cond (bytes_eq head (codes ":requirements")) (Some parts.Requirements)
    (cond (bytes_eq head (codes ":objects")) (Some parts.Objects)
    (cond (bytes_eq head (codes ":init")) (Some parts.Init)
    (cond (bytes_eq head (codes ":goal")) (Some parts.Goal)
    (cond (bytes_eq head (codes ":metric")) (Some parts.Metric) None)))))

-- one name stands in `:domain`; it is not compared
abbrev pub domain_at : Headed → Result (Unit {0}) Fault
domain_at h = first_at h.place h.items >>= λ first. name_at first.0 >>= λ name. end_at first.1

abbrev pub put_domain : Headed → Outline → Result Outline Fault
put_domain h o = once h o.domain >>= λ s. domain_at h >>= λ u. Ok (record o { domain = s })

abbrev pub put_requirements : Headed → Outline → Result Outline Fault
put_requirements h o = once h o.requirements >>= λ s. requirements_at h.items >>= λ u. Ok (record o { requirements = s })

abbrev pub put_part : Headed → Option Part → Outline → Result Outline Fault
put_part h None o = Err (h.place, cause.Unsupported h.head.1)
put_part h (Some parts.Domain) o = put_domain h o
put_part h (Some parts.Requirements) o = put_requirements h o
put_part h (Some parts.Objects) o = once h o.objects >>= λ s. Ok (record o { objects = s })
put_part h (Some parts.Init) o = once h o.init >>= λ s. Ok (record o { init = s })
put_part h (Some parts.Goal) o = once h o.goal >>= λ s. Ok (record o { goal = s })
put_part h (Some parts.Metric) o = once h o.metric >>= λ s. Ok (record o { metric = s })

-- one more section
abbrev pub section_in : Headed → Outline → Result Outline Fault
section_in h o = put_part h (part_of h.head.1) o

abbrev pub sections_at : Outline → List Sexp → Result Outline Fault
sections_at o [] = Ok o
sections_at o (s ∷ ss) = head_at s >>= λ h. section_in h o >>= λ more. sections_at more ss

-- a section that must be there, of the problem at the place
abbrev pub required : ℕ → List ℕ → Option Headed → Result Headed Fault
required place word section = needed (place, cause.Missing word) section

-- what is read of a problem's sections
pub record Body : Type 0 where
  pub objects : Option Headed
  pub init : Headed
  pub goal : Headed
  pub metric : Option Headed

unfoldable pub outline_at : Sexp → Result Body Fault
outline_at tree = do
  whole ← head_at tree
  items ← body_at (codes "problem") whole
  o ← sections_at no_sections items
  init ← required whole.place (codes ":init") o.init
  goal ← required whole.place (codes ":goal") o.goal
  Ok (record { objects = o.objects; init = init; goal = goal; metric = o.metric })
