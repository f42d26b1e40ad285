-- What domains and problems begin with, and their sections.
use Rattle.std.specs.Prelude.{◌≡◌, ℕ, true, List, [], ◌∷◌, ◌++◌, Some, None, codes}
use Rattle.pddl_lex.specs.declared.sexp.Sexp.{Sexp}
use Rattle.pddl_form.specs.Trees.{Named, Headed, begins, is_name}
use Rattle.pddl_form.specs.Spells.{IsWord}
use Rattle.pddl_domain.specs.Outline as domain
use Rattle.pddl_domain.specs.declared.outline.Part as domain_part
use Rattle.pddl_domain.specs.declared.outline.Part.TheVariants as of_domain
use Rattle.pddl_problem.specs.Outline as problem
use Rattle.pddl_problem.specs.declared.outline.Part as problem_part
use Rattle.pddl_problem.specs.declared.outline.Part.TheVariants as of_problem
use Rattle.pddl_laws.specs.Terms.{SpellsList}

-- one name stands behind the head
pub record HasName (h : Headed) : Type 0 where
  pub tree : Sexp
  pub name : Named
  pub only : h.items ≡ tree ∷ []
  pub word : IsWord tree name
  pub is_name : is_name name.1 ≡ true

-- `(define (KIND NAME) SECTION ..)`
pub record SpellsBody (kind : List ℕ) (tree : Sexp) (whole : Headed) (sections : List Sexp) : Type 0 where
  pub list : SpellsList tree whole
  pub is_define : whole.head.1 ≡ codes "define"
  pub title_tree : Sexp
  pub title : Headed
  pub items : whole.items ≡ title_tree ∷ sections
  pub is_title : SpellsList title_tree title
  pub is_kind : title.head.1 ≡ kind
  pub named : HasName title

-- words that begin with `:`
abbrev pub AreKeywords : List Sexp → Type 0
AreKeywords [] = Unit {0}
AreKeywords (x ∷ xs) = ((w : Named) × IsWord x w × (begins 58 w.1 ≡ true)) × AreKeywords xs

-- a section of a domain, which comes once unless it is an action
abbrev pub PutsDomain : domain_part.Part → Headed → domain.Outline → domain.Outline → Type 0
PutsDomain of_domain.Requirements h o next = (o.requirements ≡ None) × AreKeywords h.items × (next ≡ record o { requirements = Some h })
PutsDomain of_domain.Types h o next = (o.types ≡ None) × (next ≡ record o { types = Some h })
PutsDomain of_domain.Constants h o next = (o.constants ≡ None) × (next ≡ record o { constants = Some h })
PutsDomain of_domain.Predicates h o next = (o.predicates ≡ None) × (next ≡ record o { predicates = Some h })
PutsDomain of_domain.Functions h o next = (o.functions ≡ None) × (next ≡ record o { functions = Some h })
PutsDomain of_domain.Action h o next = next ≡ record o { actions = o.actions ++ h ∷ [] }

pub data SpellsDomainSections : domain.Outline → List Sexp → domain.Outline → Type 0 where
  domain_none : {o : domain.Outline} {items : List Sexp} {all : domain.Outline} → items ≡ [] → all ≡ o → SpellsDomainSections o items all
  domain_more : {o : domain.Outline} {items : List Sexp} {all : domain.Outline} (x : Sexp) (xs : List Sexp) (h : Headed) (part : domain_part.Part) (next : domain.Outline) →
      SpellsList x h → domain.part_of h.head.1 ≡ Some part → PutsDomain part h o next → SpellsDomainSections next xs all → items ≡ x ∷ xs → SpellsDomainSections o items all

-- a section of a problem, which comes once
abbrev pub PutsProblem : problem_part.Part → Headed → problem.Outline → problem.Outline → Type 0
PutsProblem of_problem.Domain h o next = (o.domain ≡ None) × HasName h × (next ≡ record o { domain = Some h })
PutsProblem of_problem.Requirements h o next = (o.requirements ≡ None) × AreKeywords h.items × (next ≡ record o { requirements = Some h })
PutsProblem of_problem.Objects h o next = (o.objects ≡ None) × (next ≡ record o { objects = Some h })
PutsProblem of_problem.Init h o next = (o.init ≡ None) × (next ≡ record o { init = Some h })
PutsProblem of_problem.Goal h o next = (o.goal ≡ None) × (next ≡ record o { goal = Some h })
PutsProblem of_problem.Metric h o next = (o.metric ≡ None) × (next ≡ record o { metric = Some h })

pub data SpellsProblemSections : problem.Outline → List Sexp → problem.Outline → Type 0 where
  problem_none : {o : problem.Outline} {items : List Sexp} {all : problem.Outline} → items ≡ [] → all ≡ o → SpellsProblemSections o items all
  problem_more : {o : problem.Outline} {items : List Sexp} {all : problem.Outline} (x : Sexp) (xs : List Sexp) (h : Headed) (part : problem_part.Part) (next : problem.Outline) →
      SpellsList x h → problem.part_of h.head.1 ≡ Some part → PutsProblem part h o next → SpellsProblemSections next xs all → items ≡ x ∷ xs → SpellsProblemSections o items all

-- the sections of a domain
pub record SpellsDomainOutline (tree : Sexp) (o : domain.Outline) : Type 0 where
  pub whole : Headed
  pub sections : List Sexp
  pub body : SpellsBody (codes "domain") tree whole sections
  pub each : SpellsDomainSections domain.no_sections sections o

-- the sections of a problem, of which `:init` and `:goal` are there
pub record SpellsProblemOutline (tree : Sexp) (b : problem.Body) : Type 0 where
  pub whole : Headed
  pub sections : List Sexp
  pub all : problem.Outline
  pub body : SpellsBody (codes "problem") tree whole sections
  pub each : SpellsProblemSections problem.no_sections sections all
  pub objects : b.objects ≡ all.objects
  pub init : all.init ≡ Some b.init
  pub goal : all.goal ≡ Some b.goal
  pub metric : b.metric ≡ all.metric
