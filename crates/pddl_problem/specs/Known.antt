-- What a problem finds in its domain, by name.
use Rattle.std.specs.Prelude.{ℕ, List, [], map}
use Rattle.pddl_types.specs.declared.domains.Head.{Head}
use Rattle.pddl_types.specs.declared.domains.Domain.{Domain}
use Rattle.pddl_form.specs.Names.{names_from}
use Rattle.pddl_form.specs.Things.{Table}

abbrev pub constants_of : Domain → Table
constants_of d = record { names = names_from [] (map (λ t. t.name) d.constants); numbers = map (λ t. t.kind) d.constants }

abbrev pub heads_of : List Head → Table
heads_of heads = record { names = names_from [] (map (λ h. h.name) heads); numbers = map (λ h. h.arity) heads }

pub record Known : Type 0 where
  pub types : List (List ℕ)
  pub predicates : Table
  pub functions : Table

abbrev pub known_of : Domain → Known
known_of d = record { types = names_from [] (map (λ t. t.name) d.types); predicates = heads_of d.predicates; functions = heads_of d.functions }
