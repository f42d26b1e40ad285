-- A domain as its readers give it, and the limit that is judged on it.
use Rattle.std.specs.Prelude.{ℕ, cond, nat_lt, List, [], ◌∷◌, Option, Some, None, Result, Ok, length}
use Rattle.std.specs.List.{list_any}
use Rattle.bd_base.specs.declared.text_err.Limit.{Limit}
use Rattle.bd_base.specs.declared.text_err.Limit.TheVariants as limits
use Rattle.pddl_lex.specs.declared.sexp.Sexp.{Sexp}
use Rattle.pddl_types.specs.declared.domains.TypeDecl.{TypeDecl}
use Rattle.pddl_types.specs.declared.domains.Schema.{Schema}
use Rattle.pddl_types.specs.declared.domains.Domain.{Domain}
use Rattle.pddl_form.specs.Fault.{Fault, ◌>>=◌}
use Rattle.pddl_domain.specs.Domain.{Declared, declared_at}
use Rattle.pddl_domain.specs.Actions.{actions_from}
use Rattle.pddl_form.specs.Things.{things_of, heads_of}

-- a type that was given no parent stands under `object`
abbrev pub parent_or_object : Option ℕ → ℕ
parent_or_object None = 0
parent_or_object (Some k) = k

abbrev pub types_of : List (List ℕ) → List (Option ℕ) → List TypeDecl
types_of [] parents = []
types_of (n ∷ names) [] = []
types_of (n ∷ names) (p ∷ parents) = record { name = n; parent = parent_or_object p } ∷ types_of names parents

abbrev pub domain_of : Declared → List Schema → Domain
domain_of d schemas = record {
  types = types_of d.types.names d.types.parents;
  constants = things_of d.constants.names d.constants.numbers;
  predicates = heads_of d.predicates.names d.predicates.numbers;
  functions = heads_of d.functions.names d.functions.numbers;
  schemas = schemas;
}

-- the domain with its actions
abbrev pub with_actions : Declared → Result Domain Fault
with_actions d = actions_from d [] [] d.actions >>= λ schemas. Ok (domain_of d schemas)

-- the domain that a tree is, or its first fault
abbrev pub domain_at : Sexp → Result Domain Fault
domain_at tree = declared_at tree >>= λ d. with_actions d

-- the limit that a domain passes: more than 16 parameters in an action
abbrev pub over_of : Domain → Option (Limit × ℕ)
over_of d = cond (list_any (λ s. nat_lt 16 (length s.params)) d.schemas) (Some (limits.Parameters, 17)) None
