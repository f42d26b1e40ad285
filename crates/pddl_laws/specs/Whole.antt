-- What whole domains and problems spell.
use Rattle.std.specs.Prelude.{◌≡◌, ℕ, Bool, false, List, Option, Some, None}
use Rattle.pddl_lex.specs.declared.sexp.Sexp.{Sexp}
use Rattle.pddl_types.specs.declared.terms.Atom.{Atom}
use Rattle.pddl_types.specs.declared.domains.Schema.{Schema}
use Rattle.pddl_types.specs.declared.domains.Domain.{Domain}
use Rattle.pddl_types.specs.declared.problems.Problem.{Problem}
use Rattle.pddl_form.specs.Trees.{Headed}
use Rattle.pddl_form.specs.Groups.{Group}
use Rattle.pddl_form.specs.Things.{Table, no_rows}
use Rattle.pddl_form.specs.Spells.{IsTyped, PutsGroups, SpellsThings}
use Rattle.pddl_domain.specs.Outline as domain
use Rattle.pddl_domain.specs.Types.{Types, only_object}
use Rattle.pddl_domain.specs.Spells.{SpellsPredicates}
use Rattle.pddl_domain.specs.Domain.{Declared}
use Rattle.pddl_domain.specs.Whole.{domain_of}
use Rattle.pddl_problem.specs.Outline as problem
use Rattle.pddl_problem.specs.Init.{Init, no_init}
use Rattle.pddl_problem.specs.Known.{known_of, constants_of}
use Rattle.pddl_problem.specs.Whole.{objects_scope, problem_of}
use Rattle.pddl_laws.specs.Outlines.{SpellsDomainOutline, SpellsProblemOutline}
use Rattle.pddl_laws.specs.Types.{SpellsTypes}
use Rattle.pddl_laws.specs.Functions.{SpellsFunctions}
use Rattle.pddl_laws.specs.Actions.{SpellsActions}
use Rattle.pddl_laws.specs.Stated.{SpellsInit, SpellsGoal, SpellsMetric}

-- a section that isn't there declares nothing
abbrev pub TypesSection : Option Headed → Types → Type 0
TypesSection None types = types ≡ only_object
TypesSection (Some h) types = SpellsTypes h.items types

abbrev pub ConstantsSection : List (List ℕ) → Option Headed → Table → Type 0
ConstantsSection types None table = table ≡ no_rows
ConstantsSection types (Some h) table = SpellsThings types h.items table

abbrev pub PredicatesSection : Option Headed → Table → Type 0
PredicatesSection None table = table ≡ no_rows
PredicatesSection (Some h) table = SpellsPredicates h.items table

abbrev pub FunctionsSection : Option Headed → Table → Type 0
FunctionsSection None table = table ≡ no_rows
FunctionsSection (Some h) table = SpellsFunctions h.items table

-- the constants, and the objects behind them; a constant may be named again with its type
abbrev pub ObjectsSection : List (List ℕ) → Table → Option Headed → Table → Type 0
ObjectsSection types constants None table = table ≡ constants
ObjectsSection types constants (Some h) table = (groups : List Group) × IsTyped false h.items groups × PutsGroups types constants groups table

-- what a domain declares before its actions
pub record SpellsDeclared (tree : Sexp) (d : Declared) : Type 0 where
  pub outline : domain.Outline
  pub sections : SpellsDomainOutline tree outline
  pub types : TypesSection outline.types d.types
  pub constants : ConstantsSection d.types.names outline.constants d.constants
  pub predicates : PredicatesSection outline.predicates d.predicates
  pub functions : FunctionsSection outline.functions d.functions
  pub actions : d.actions ≡ outline.actions

pub record SpellsDomain (tree : Sexp) (d : Domain) : Type 0 where
  pub declared : Declared
  pub schemas : List Schema
  pub before : SpellsDeclared tree declared
  pub actions : SpellsActions declared declared.actions schemas
  pub whole : d ≡ domain_of declared schemas

pub record SpellsProblem (d : Domain) (tree : Sexp) (p : Problem) : Type 0 where
  pub body : problem.Body
  pub objects : Table
  pub init : Init
  pub goal : List Atom
  pub metric : Bool
  pub sections : SpellsProblemOutline tree body
  pub are_objects : ObjectsSection (known_of d).types (constants_of d) body.objects objects
  pub is_init : SpellsInit (objects_scope objects) (known_of d).predicates (known_of d).functions no_init body.init.items init
  pub is_goal : SpellsGoal (objects_scope objects) (known_of d).predicates body.goal goal
  pub is_metric : SpellsMetric (known_of d).functions body.metric metric
  pub whole : p ≡ problem_of d objects (init.atoms, init.values) goal metric
