-- The outline of a domain: its sections, each at most once but for actions.
use Rattle.std.specs.Prelude.{ℕ, cond, List, [], ◌∷◌, ◌++◌, Option, Some, None, Result, Ok, Err, codes}
use Rattle.std.specs.Str.{bytes_eq}
use Rattle.bd_base.specs.declared.text_err.Cause.TheVariants as cause
use Rattle.pddl_lex.specs.declared.sexp.Sexp.{Sexp}
use Rattle.pddl_form.specs.Fault.{Fault, ◌>>=◌}
use Rattle.pddl_form.specs.Trees.{Headed, head_at}
use Rattle.pddl_domain.specs.declared.outline.Part.{Part}
use Rattle.pddl_domain.specs.declared.outline.Part.TheVariants as parts
use Rattle.pddl_form.specs.Titles.{body_at, once, requirements_at}

pub record Outline : Type 0 where
  pub requirements : Option Headed
  pub types : Option Headed
  pub constants : Option Headed
  pub predicates : Option Headed
  pub functions : Option Headed
  pub actions : List Headed

abbrev pub no_sections : Outline
no_sections = record { requirements = None; types = None; constants = None; predicates = None; functions = None; actions = [] }

-- which part a section is, by its head
abbrev pub part_of : List ℕ → Option Part
part_of head =
    cond (bytes_eq head (codes ":requirements")) (Some parts.Requirements)
    (cond (bytes_eq head (codes ":types")) (Some parts.Types)
    (cond (bytes_eq head (codes ":constants")) (Some parts.Constants)
    (cond (bytes_eq head (codes ":predicates")) (Some parts.Predicates)
    (cond (bytes_eq head (codes ":functions")) (Some parts.Functions)
    (cond (bytes_eq head (codes ":action")) (Some parts.Action) None)))))

abbrev pub put_requirements : Headed → Outline → Result Outline Fault
put_requirements h o = once h o.requirements >>= λ s. requirements_at h.items >>= λ u. Ok (record o { requirements = s })

abbrev pub put_part : Headed → Option Part → Outline → Result Outline Fault
put_part h None o = Err (h.place, cause.Unsupported h.head.1)
put_part h (Some parts.Requirements) o = put_requirements h o
put_part h (Some parts.Types) o = once h o.types >>= λ s. Ok (record o { types = s })
put_part h (Some parts.Constants) o = once h o.constants >>= λ s. Ok (record o { constants = s })
put_part h (Some parts.Predicates) o = once h o.predicates >>= λ s. Ok (record o { predicates = s })
put_part h (Some parts.Functions) o = once h o.functions >>= λ s. Ok (record o { functions = s })
put_part h (Some parts.Action) o = Ok (record o { actions = o.actions ++ h ∷ [] })

-- one more section
abbrev pub section_in : Headed → Outline → Result Outline Fault
section_in h o = put_part h (part_of h.head.1) o

abbrev pub sections_at : Outline → List Sexp → Result Outline Fault
sections_at o [] = Ok o
sections_at o (s ∷ ss) = head_at s >>= λ h. section_in h o >>= λ more. sections_at more ss

abbrev pub outline_at : Sexp → Result Outline Fault
outline_at tree = head_at tree >>= λ whole. body_at (codes "domain") whole >>= λ sections. sections_at no_sections sections
